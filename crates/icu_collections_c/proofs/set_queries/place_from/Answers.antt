-- The boundaries that the steps have passed are at most the number, and so are those before them.
use Rattle.std.proofs.Common.{◌≡◌, ◌+◌, ◌-◌, ◌≤◌, length, arith}
use Rattle.icu_frozen_sets.proofs.CallerLemmas.{IsNonDecreasingBy-strictly}
use Rattle.icu_collections_c.proofs.SetPlaceLemmas.{part_ascends, place_in_part}
use Rattle.icu_collections_c.proofs.set_queries.place_from.Goals as goal
use Rattle.icu_collections_c.proofs.set_queries.place_from.Goals.{else-loop-low-test, then-loop-low-test+else-ends-low}

pub loop-low-preserved : goal.loop-low-preserved
loop-low-preserved c =
    let inv = c.loop-low.invariant in
    record {
      least = (let a = inv.least in omega arith);
      within = omega (arith, c.loop-low-test.true);
      size = (let s = inv.size in omega arith);
      passed = λ v k a b.
          let r = IsNonDecreasingBy-strictly c.args.ends.now v.ascending k (c.loop-low.low + c.loop-low.size) 0 (omega arith)
          c.loop-low-test.true in
          omega (arith, r, c.if-ends-low.true);
    }

pub returns-clause-place : goal.returns-clause-place
returns-clause-place c = λ v.
    let xs = c.args.ends.now in
    let low = c.loop-low.low in
    let n = c.min-high.result - low in
    let inv = c.loop-low.invariant in
    let room : low + n ≤ length xs = omega (arith, c.min-high.ensures, inv.within) in
    place_in_part xs c.args.from low n c.args.c c.place_of.result room inv.least (inv.passed v)
    (λ h. elim c.loop-low-test.branch [
      | then-loop-low-test+else-ends-low w ↦
          (let same : low + n ≡ low + c.loop-low.size = omega (arith, c.min-high.ensures, w.loop-low-test.true) in
          rw same w.if-ends-low.false)
      | else-loop-low-test w ↦ absurd (omega (arith, h, c.min-high.ensures, w.loop-low-test.false))
    ])
    (c.place_of.ensures.place (part_ascends xs low n v.ascending room))
