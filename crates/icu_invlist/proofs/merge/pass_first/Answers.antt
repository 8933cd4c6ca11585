use Rattle.std.proofs.Common.{◌≡◌, ◌<◌, get_or, length, sym, arith}
use Rattle.std.proofs.lemmas.Option.{get_or_from_slice_get}
use Rattle.icu_invlist.proofs.MergeLemmas.{walks_first, walks_small}
use Rattle.icu_invlist.proofs.merge.pass_first.Goals as goal

pub loop-first-preserved : goal.loop-first-preserved
loop-first-preserved g c =
    let a = g.A.Boundaries.list c.args.a in
    let b = g.B.Boundaries.list c.args.b in
    let l = c.loop-first in
    let e : c.at-end.result ≡ get_or b c.args.walk.second 0 = sym (get_or_from_slice_get b c.args.walk.second c.at-end.result 0 c.at-end.ensures) in
    let n : c.at-next.result ≡ get_or a l.first 0 = sym (get_or_from_slice_get a l.first c.at-next.result 0 c.at-next.ensures) in
    let inside : l.first < length a = (let k = c.count-count.ensures in let t = c.loop-first-test.true in omega arith) in
    let below : get_or a l.first 0 < get_or b c.args.walk.second 0 = (let t = c.if-end-next.false in omega arith) in
    record {
      walks = rw (c.put-written.ensures.out, c.put-written.ensures.next, c.of.ensures, c.of-2.ensures, n)
          (walks_first g.O.SetOperation.gives a b g.base l.out l.written l.first c.args.walk.second l.invariant.walks inside c.requires.1.1.1.0 below);
      forward = (let f = l.invariant.forward in omega arith);
    }

pub returns-then-end-next-clause-ahead : goal.returns-then-end-next-clause-ahead
returns-then-end-next-clause-ahead g c = λ h.
    let b = g.B.Boundaries.list c.args.b in
    let a = g.A.Boundaries.list c.args.a in
    let e : c.at-end.result ≡ get_or b c.args.walk.second 0 = sym (get_or_from_slice_get b c.args.walk.second c.at-end.result 0 c.at-end.ensures) in
    let n : c.at-next.result ≡ get_or a c.loop-first.first 0 = sym (get_or_from_slice_get a c.loop-first.first c.at-next.result 0 c.at-next.ensures) in
    let t = c.if-end-next.true in omega arith

pub put-written-requires : goal.put-written-requires
put-written-requires g c =
    let l = c.loop-first in
    walks_small g.O.SetOperation.gives (g.A.Boundaries.list c.args.a) (g.B.Boundaries.list c.args.b) g.base l.out l.first c.args.walk.second l.written l.invariant.walks
