use Rattle.std.proofs.Common.{◌≡◌, length}
use Rattle.ucptab_table.specs.TableText.{trim_start}
use Rattle.ucptab_table.proofs.rows.trim_start.Given as goal

abbrev pub invariant-loop-rest : goal.invariant-loop-rest
invariant-loop-rest l = trim_start l.rest ≡ trim_start l.initial.rest

abbrev pub decreases-loop-rest : goal.decreases-loop-rest
decreases-loop-rest l = length l.rest
