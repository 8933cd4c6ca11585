use Rattle.std.proofs.Common.{◌≡◌, length}
use Rattle.ucptab_table.specs.TableText.{trim_end}
use Rattle.ucptab_table.proofs.rows.trim_end.Given as goal

abbrev pub invariant-loop-rest : goal.invariant-loop-rest
invariant-loop-rest l = trim_end l.rest ≡ trim_end l.initial.rest

abbrev pub decreases-loop-rest : goal.decreases-loop-rest
decreases-loop-rest l = length l.rest
