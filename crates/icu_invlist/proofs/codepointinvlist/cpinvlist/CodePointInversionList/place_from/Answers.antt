use Rattle.std.proofs.Common.{arith, suc}
use Rattle.icu_invlist.proofs.RunLemmas.{ends_below-le}
use Rattle.icu_invlist.proofs.PlaceLemmas.{valid-length, place_front, place_behind}
use Rattle.icu_invlist.proofs.codepointinvlist.cpinvlist.CodePointInversionList.place_from.Goals as goal

pub overflow_add-from : goal.overflow_add-from
overflow_add-from c = let l = valid-length c.args.self.now c.count-count.ensures.valid in
    let b = ends_below-le c.args.self.now (suc c.args.c) in let r = c.requires.from in omega arith

pub returns-then-c-end_at-clause-place : goal.returns-then-c-end_at-clause-place
returns-then-c-end_at-clause-place c =
    let i = c.loop-place.invariant in
    let f = place_front c.args.self.now c.loop-place.place c.args.c c.count-count.ensures.valid (let e = c.end_at.ensures.end in
    let t = c.if-c-end_at.true in omega arith) in omega arith

pub loop-place-preserved : goal.loop-place-preserved
loop-place-preserved c = place_behind c.args.self.now c.loop-place.place c.args.c c.count-count.ensures.valid
    (let t = c.loop-place-test.true in let m = c.min-near.ensures in let n = c.count-count.ensures.count in omega arith)
    (let e = c.end_at.ensures.end in let t = c.if-c-end_at.false in omega arith)

pub returns-then-place-count-clause-place : goal.returns-then-place-count-clause-place
returns-then-place-count-clause-place c = let b = ends_below-le c.args.self.now (suc c.args.c) in
    let i = c.loop-place.invariant in let e = c.count-count.ensures.count in let t = c.if-place-count.true in omega arith

pub returns-clause-within : goal.returns-clause-within
returns-clause-within c = let b = ends_below-le c.args.self.now (suc c.args.c) in let e = c.place_past.ensures in omega arith
