-- The ranges before the one that has the code point have all members below it.
use Rattle.std.proofs.Common.{◌≡◌, ◌+◌, ◌-◌, refl, arith, get_or}
use Rattle.icu_collections_c.proofs.SetPlaceLemmas.{gap_first, gap_next, nth_found, nth_none}
use Rattle.icu_collections_c.proofs.set_queries.bks_set_nth.Goals as goal

pub loop-i-init : goal.loop-i-init
loop-i-init c = record {
  is_even = refl;
  same = refl;
  within = omega arith;
  left = omega arith;
  gap = λ v. let none : c.args.n - c.args.n ≡ 0 = omega arith in rw none (gap_first c.args.ends.now v);
}

pub returns-then-left-size : goal.returns-then-left-size
returns-then-left-size c = λ v.
    let i = c.loop-i.invariant in
    nth_found c.args.ends.now c.loop-i.i (c.args.n - c.loop-i.left) v i.is_even c.loop-i-test.true (i.gap v) c.args.n c.loop-i.left
    c.args.c.now _ i.left refl (omega (arith, c.saturating_sub-size.ensures)) refl

pub loop-i-preserved : goal.loop-i-preserved
loop-i-preserved c =
    let i = c.loop-i.invariant in
    record {
      is_even = (let e = i.is_even in omega arith);
      same = i.same;
      within = omega arith;
      left = omega arith;
      gap = λ v.
          let same : c.args.n - (c.loop-i.left - c.saturating_sub-size.result)
          ≡ c.args.n - c.loop-i.left + (get_or c.args.ends.now (c.loop-i.i + 1) 0 - get_or c.args.ends.now c.loop-i.i 0) =
          omega (arith, c.saturating_sub-size.ensures) in
          rw same (gap_next c.args.ends.now c.loop-i.i (c.args.n - c.loop-i.left) v i.is_even c.loop-i-test.true (i.gap v));
    }

pub returns : goal.returns
returns c = λ v.
    let i = c.loop-i.invariant in
    nth_none c.args.ends.now c.loop-i.i (c.args.n - c.loop-i.left) c.args.n c.args.c.now c.loop-i.c v i.is_even i.within
    (omega (arith, c.loop-i-test.false)) (i.gap v) (omega arith) i.same
