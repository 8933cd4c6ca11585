-- Only the last boundary may be the end of the code space.
use Rattle.std.proofs.Common.{◌-◌, arith, length}
use Rattle.icu_collections_c.proofs.SetMakingLemmas.{all_below, back_added, back_removed, each_below}
use Rattle.icu_collections_c.proofs.set_building.back_toggled.Goals as goal
use Rattle.icu_collections_c.proofs.set_building.back_toggled.Goals.{else-count-gt0-via-then-count-gt0+else-ends-count-eq-CODE_POINT_LIMIT, else-count-gt0-via-else-count-gt0}

pub returns-then-ends-count-eq-CODE_POINT_LIMIT-clause-parts : goal.returns-then-ends-count-eq-CODE_POINT_LIMIT-clause-parts
returns-then-ends-count-eq-CODE_POINT_LIMIT-clause-parts c =
    back_removed c.args.ends.now (length c.args.ends.now - 1) (omega arith) (all_below c.args.ends.now c.requires)
    c.if-ends-count-eq-CODE_POINT_LIMIT.true

pub returns-else-count-gt0-clause-parts : goal.returns-else-count-gt0-clause-parts
returns-else-count-gt0-clause-parts c =
    back_added c.args.ends.now (each_below c.args.ends.now c.requires (elim c.else-count-gt0.branch [
      | else-count-gt0-via-then-count-gt0+else-ends-count-eq-CODE_POINT_LIMIT w ↦ λ h. w.if-ends-count-eq-CODE_POINT_LIMIT.false
      | else-count-gt0-via-else-count-gt0 w ↦ λ h. absurd (let n = w.if-count-gt0.false in omega arith)
    ]))
