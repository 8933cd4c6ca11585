use Rattle.std.proofs.Common.{◌≡◌, ◌<◌, get_or, length, sym, arith}
use Rattle.std.proofs.lemmas.Option.{get_or_from_slice_get}
use Rattle.icu_invlist.proofs.MergeLemmas.{walks_second, walks_small}
use Rattle.icu_invlist.proofs.merge.pass_second.Goals as goal

pub loop-second-preserved : goal.loop-second-preserved
loop-second-preserved g c =
    let a = g.A.Boundaries.list c.args.a in
    let b = g.B.Boundaries.list c.args.b in
    let l = c.loop-second in
    let e : c.at-end.result ≡ get_or a c.args.walk.first 0 = sym (get_or_from_slice_get a c.args.walk.first c.at-end.result 0 c.at-end.ensures) in
    let n : c.at-next.result ≡ get_or b l.second 0 = sym (get_or_from_slice_get b l.second c.at-next.result 0 c.at-next.ensures) in
    let inside : l.second < length b = (let k = c.count-count.ensures in let t = c.loop-second-test.true in omega arith) in
    let below : get_or b l.second 0 < get_or a c.args.walk.first 0 = (let t = c.if-end-next.false in omega arith) in
    record {
      walks = rw (c.put-written.ensures.out, c.put-written.ensures.next, c.of.ensures, c.of-2.ensures, n)
          (walks_second g.O.SetOperation.gives a b g.base l.out l.written c.args.walk.first l.second l.invariant.walks c.requires.1.1.1.0 inside below);
      forward = (let f = l.invariant.forward in omega arith);
    }

pub returns-then-end-next-clause-ahead : goal.returns-then-end-next-clause-ahead
returns-then-end-next-clause-ahead g c = λ h.
    let a = g.A.Boundaries.list c.args.a in
    let b = g.B.Boundaries.list c.args.b in
    let e : c.at-end.result ≡ get_or a c.args.walk.first 0 = sym (get_or_from_slice_get a c.args.walk.first c.at-end.result 0 c.at-end.ensures) in
    let n : c.at-next.result ≡ get_or b c.loop-second.second 0 = sym (get_or_from_slice_get b c.loop-second.second c.at-next.result 0 c.at-next.ensures) in
    let t = c.if-end-next.true in omega arith

pub put-written-requires : goal.put-written-requires
put-written-requires g c =
    let l = c.loop-second in
    walks_small g.O.SetOperation.gives (g.A.Boundaries.list c.args.a) (g.B.Boundaries.list c.args.b) g.base l.out c.args.walk.first l.second l.written l.invariant.walks
