use Rattle.std.proofs.Common.{◌<◌, ◌+◌, length, arith, refl}
use Rattle.std.proofs.lemmas.Bool.{both_ways, false≢true}
use Rattle.icu_invlist.proofs.PlaceLemmas.{all_from_subset, holds_more, holds_whole, last_of_pair}
use Rattle.icu_invlist.proofs.codepointinvlist.cpinvlist.CodePointInversionList.holds_each.Goals as goal

pub loop-i-preserved : goal.loop-i-preserved
loop-i-preserved c =
    let v = c.count-count.ensures.valid in
    let start = c.end_at.ensures.end in
    let end = c.end_at-in-loop-i.ensures.end in
    let inside : c.loop-i.i + 1 < length c.args.other.now =
    last_of_pair c.args.other.now c.loop-i.i v c.loop-i.invariant.even (let t = c.loop-i-test.true in
    let k = c.count-count.ensures.count in omega arith) in
    let rises : c.end_at.result < c.end_at-in-loop-i.result = (let a = v.ascending c.loop-i.i inside in omega arith) in
    holds_more c.args.other.now c.args.self.now c.loop-i.i c.loop-i.invariant
    (rw (← start, ← end) ((c.reaches.ensures c.end_at.result c.place_of-found.ensures.place rises).0 c.if-not-reaches.false))

pub returns-then-not-reaches : goal.returns-then-not-reaches
returns-then-not-reaches c =
    let v = c.count-count.ensures.valid in
    let start = c.end_at.ensures.end in
    let end = c.end_at-in-loop-i.ensures.end in
    let inside : c.loop-i.i + 1 < length c.args.other.now =
    last_of_pair c.args.other.now c.loop-i.i v c.loop-i.invariant.even (let t = c.loop-i-test.true in
    let k = c.count-count.ensures.count in omega arith) in
    let rises : c.end_at.result < c.end_at-in-loop-i.result = (let a = v.ascending c.loop-i.i inside in omega arith) in (
      λ t. absurd (false≢true t),
      λ sub. absurd (both_ways _ c.if-not-reaches.true
          ((c.reaches.ensures c.end_at.result c.place_of-found.ensures.place rises).1
          (rw (start, end) (all_from_subset c.args.other.now c.args.self.now c.loop-i.i v c.loop-i.invariant.even inside sub)))),
    )

pub returns : goal.returns
returns c = (
  λ t. holds_whole c.args.other.now c.args.self.now c.loop-i.i c.loop-i.invariant c.count-count.ensures.valid
      (omega (arith, c.count-count.ensures.count)),
  λ sub. refl,
)
