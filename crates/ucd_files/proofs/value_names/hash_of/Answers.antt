use Rattle.std.proofs.Common.{sym, ap, ◌∙◌}
use Rattle.std.specs.Prelude.{fold}
use Rattle.ucd_files.specs.Inside.Groups.{mixed}
use Rattle.ucd_files.proofs.value_names.hash_of.Goals as goal

pub loop-byte-preserved : goal.loop-byte-preserved
unfolding mixed
loop-byte-preserved c =
    rw c.from.ensures
    (ap (λ bytes. fold mixed c.loop-byte.hash bytes) (sym c.in-Some.ensures.some) ∙ c.loop-byte.invariant)
