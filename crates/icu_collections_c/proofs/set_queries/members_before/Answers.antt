-- One more range.
use Rattle.std.proofs.Common.{◌≡◌, ◌+◌, ◌-◌, ◌*◌, ◌%◌, ◌<◌, ◌≤◌, length, get_or, arith, refl}
use Rattle.icu_zerovec.specs.CodePoints.{code_point_limit}
use Rattle.icu_collections_c.proofs.SetPlaceLemmas.{gap_first, gap_next, members_small}
use Rattle.icu_collections_c.proofs.set_queries.members_before.Goals as goal

pub loop-i-init : goal.loop-i-init
loop-i-init c = record { gap = λ v. gap_first c.args.ends.now v }

pub loop-i-preserved : goal.loop-i-preserved
loop-i-preserved c = record {
  gap = λ v.
      let i = 2 * c.loop-i.i in
      let before = c.loop-i.before in
      let s = get_or c.args.ends.now i 0 in
      let t = get_or c.args.ends.now (i + 1) 0 in
      let inside : i + 1 < length c.args.ends.now = omega (arith, c.loop-i-test.true) in
      let gap = c.loop-i.invariant.gap v in
      let small = members_small c.args.ends.now i before v (omega arith) inside gap in
      let limit : t ≤ code_point_limit = v.within (i + 1) 0 inside in
      let rises = v.ascending i inside in
      let same : (before + (t + (4294967296 - s)) % 4294967296) % 4294967296 ≡ before + (t - s) = omega (arith, small, limit, rises) in
      let next : 2 * (c.loop-i.i + 1) ≡ i + 2 = omega arith in
      rw (same, next) (gap_next c.args.ends.now i before v (omega arith) inside gap);
}
