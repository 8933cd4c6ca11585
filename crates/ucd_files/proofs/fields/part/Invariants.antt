use Rattle.std.proofs.Common.{◌≡◌, ◌-◌}
use Rattle.ucd_files.specs.Fields.{part}
use Rattle.ucd_files.proofs.fields.part.Given as goal

abbrev pub invariant-loop : goal.invariant-loop
invariant-loop l = part l.separator (l.n - l.counter) l.rest ≡ part l.separator l.n l.content
