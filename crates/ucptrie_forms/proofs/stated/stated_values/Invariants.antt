use Rattle.std.proofs.Common.{◌≡◌, codes, length}
use Rattle.std.specs.Option.{option_or}
use Rattle.ucptrie_forms.specs.Stated.{stated}
use Rattle.ucptrie_forms.proofs.stated.stated_values.Given as goal

-- the values so far come before those of the lines that are left
abbrev pub invariant-loop-line : goal.invariant-loop-line
invariant-loop-line l = record {
  null : option_or l.null (stated (codes "null value") l.rest) ≡ stated (codes "null value") l.rows;
  error : option_or l.error (stated (codes "error value") l.rest) ≡ stated (codes "error value") l.rows;
}

abbrev pub decreases-loop-line : goal.decreases-loop-line
decreases-loop-line l = length l.rest
