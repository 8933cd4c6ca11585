-- Each range of b is in one range of a: the one that ends at the first boundary of a above its start.
use Rattle.std.proofs.Common.{refl, arith}
use Rattle.std.proofs.lemmas.Bool.{both_ways, false≢true}
use Rattle.icu_collections_c.proofs.SetPlaceLemmas.{checked_all, checked_last, checked_more, checked_none}
use Rattle.icu_collections_c.proofs.set_queries.bks_set_contains_all.Goals as goal

pub loop-i-init : goal.loop-i-init
loop-i-init c = record {
  is_even = refl;
  within = omega arith;
  place = omega arith;
  checked = λ v. checked_none c.args.a.now c.args.b.now;
}

pub loop-i-preserved : goal.loop-i-preserved
loop-i-preserved c =
    let i = c.loop-i.invariant in
    let r = c.reaches.ensures.0 c.if-not-reaches.false in
    record {
      is_even = (let e = i.is_even in omega arith);
      within = omega arith;
      place = c.place_from-place.ensures.within;
      checked = λ v.
          checked_more c.args.a.now c.args.b.now c.loop-i.i c.loop-i.place c.place_from-place.result v.0 v.1 i.is_even
          c.loop-i-test.true (i.checked v) (c.place_from-place.ensures.place v.0) r.0 r.1 r.2;
    }

pub returns-then-not-reaches : goal.returns-then-not-reaches
returns-then-not-reaches c = λ v.
    let i = c.loop-i.invariant in (
      λ t. absurd (false≢true t),
      λ sub. absurd (both_ways _ c.if-not-reaches.true
          (c.reaches.ensures.1
          (checked_last c.args.a.now c.args.b.now c.loop-i.i c.loop-i.place c.place_from-place.result v.0 v.1 i.is_even
          c.loop-i-test.true (i.checked v) (c.place_from-place.ensures.place v.0) sub))),
    )

pub returns : goal.returns
returns c = λ v.
    let i = c.loop-i.invariant in (
      λ t. checked_all c.args.a.now c.args.b.now c.loop-i.i c.loop-i.place v.1 i.is_even (omega arith) (i.checked v),
      λ sub. refl,
    )
