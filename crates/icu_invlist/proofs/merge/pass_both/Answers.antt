use Rattle.std.proofs.Common.{◌≡◌, ◌<◌, ◌∙◌, get_or, length, sym, refl, arith}
use Rattle.std.proofs.lemmas.Option.{get_or_from_slice_get}
use Rattle.icu_invlist.proofs.Merging.{turned_next}
use Rattle.icu_invlist.proofs.MergeLemmas.{walks_both, walks_small}
use Rattle.icu_invlist.proofs.merge.pass_both.Goals as goal

pub loop-passed-init : goal.loop-passed-init
loop-passed-init g c = record {
  walks = c.requires.1.1.1;
  changes = rw (c.of.ensures, c.of-2.ensures) refl;
  first = omega arith;
  second = omega arith;
}

pub loop-passed-preserved : goal.loop-passed-preserved
loop-passed-preserved g c =
    let a = g.A.Boundaries.list c.args.a in
    let b = g.B.Boundaries.list c.args.b in
    let i = c.loop-passed.invariant in
    let w = c.loop-passed.passed in
    let x : c.at-end.result ≡ get_or a w.first 0 = sym (get_or_from_slice_get a w.first c.at-end.result 0 c.at-end.ensures) in
    let y : c.at.result ≡ get_or b w.second 0 = sym (get_or_from_slice_get b w.second c.at.result 0 c.at.ensures) in
    let inside_a : w.first < length a = (let k = c.count-first_count.ensures in let t = c.loop-passed-test.true in omega arith) in
    let inside_b : w.second < length b = (let k = c.count-second_count.ensures in let t = c.if-passed-second_count.true in omega arith) in
    let same : get_or a w.first 0 ≡ get_or b w.second 0 = (let t = c.if-end-at.false in omega arith) in
    record {
      walks =
          rw (c.put.ensures.out, c.put.ensures.next, i.changes, x) (walks_both g.O.SetOperation.gives a b g.base c.loop-passed.out w.written w.first w.second
          i.walks inside_a inside_b same);
      changes = i.changes ∙ turned_next g.O.SetOperation.gives w.first w.second;
      first = (let f = i.first in omega arith);
      second = (let f = i.second in omega arith);
    }

pub put-requires : goal.put-requires
put-requires g c =
    let w = c.loop-passed.passed in
    walks_small g.O.SetOperation.gives (g.A.Boundaries.list c.args.a) (g.B.Boundaries.list c.args.b) g.base c.loop-passed.out w.first w.second w.written
    c.loop-passed.invariant.walks

pub returns-then-end-at-clause-apart : goal.returns-then-end-at-clause-apart
returns-then-end-at-clause-apart g c = λ ha hb e.
    let a = g.A.Boundaries.list c.args.a in
    let b = g.B.Boundaries.list c.args.b in
    let w = c.loop-passed.passed in
    let x : c.at-end.result ≡ get_or a w.first 0 = sym (get_or_from_slice_get a w.first c.at-end.result 0 c.at-end.ensures) in
    let y : c.at.result ≡ get_or b w.second 0 = sym (get_or_from_slice_get b w.second c.at.result 0 c.at.ensures) in
    let t = c.if-end-at.true in omega arith
