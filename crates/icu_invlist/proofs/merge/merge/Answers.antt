use Rattle.std.proofs.Common.{◌≡◌, ◌∙◌, ℕ, Bool, false, true, length, ap, arith}
use Rattle.std.specs.Prelude.{if◌then◌else◌}
use Rattle.icu_invlist.proofs.PlaceLemmas.{valid-length}
use Rattle.icu_invlist.proofs.MergeLemmas.{has_merged, few_filled}
use Rattle.icu_invlist.proofs.merge.merge.Goals as goal

pub put_rest-written-requires-clause-small : goal.put_rest-written-requires-clause-small
put_rest-written-requires-clause-small g c =
    let s = c.pass_all-walk.ensures.walks in
    let k = s.few in let x = s.first in let y = s.second in
    let u = valid-length (g.A.Boundaries.list c.args.a) c.requires.a in
    let v = valid-length (g.B.Boundaries.list c.args.b) c.requires.b in omega arith

pub put_rest-requires-clause-small : goal.put_rest-requires-clause-small
put_rest-requires-clause-small g c =
    let s = c.pass_all-walk.ensures.walks in
    let k = s.few in let x = s.first in let y = s.second in
    let n = c.put_rest-written.ensures.next in
    let u = valid-length (g.A.Boundaries.list c.args.a) c.requires.a in
    let v = valid-length (g.B.Boundaries.list c.args.b) c.requires.b in omega arith

pub returns-clause-merged : goal.returns-clause-merged
returns-clause-merged g c =
    let f = g.O.SetOperation.gives in
    let a = g.A.Boundaries.list c.args.a in
    let b = g.B.Boundaries.list c.args.b in
    let w = c.pass_all-walk.result in
    let p : c.rest_from-first.result ≡ (if f true false then w.first else length a) =
    c.rest_from-first.ensures ∙ (ap (λ (t : Bool). if t then w.first else c.count.result) c.of.ensures
    ∙ ap (λ (n : ℕ). if f true false then w.first else n) c.count.ensures) in
    let q : c.rest_from-second.result ≡ (if f false true then w.second else length b) =
    c.rest_from-second.ensures ∙ (ap (λ (t : Bool). if t then w.second else c.count-2.result) c.of-2.ensures
    ∙ ap (λ (n : ℕ). if f false true then w.second else n) c.count-2.ensures) in
    has_merged f a b c.args.out.now c.pass_all-walk.new.out c.put_rest-written.new.out c.put_rest.new.out w.first w.second w.written
    c.rest_from-first.result c.rest_from-second.result c.put_rest-written.result c.put_rest.result g.met.O.SetOperation.none
    c.pass_all-walk.ensures.walks c.pass_all-walk.ensures.passed p q c.put_rest-written.ensures.out c.put_rest-written.ensures.next
    c.put_rest.ensures.out c.put_rest.ensures.next

pub returns-clause-few : goal.returns-clause-few
returns-clause-few g c =
    let f = g.O.SetOperation.gives in
    let a = g.A.Boundaries.list c.args.a in
    let b = g.B.Boundaries.list c.args.b in
    let w = c.pass_all-walk.result in
    let p : c.rest_from-first.result ≡ (if f true false then w.first else length a) =
    c.rest_from-first.ensures ∙ (ap (λ (t : Bool). if t then w.first else c.count.result) c.of.ensures
    ∙ ap (λ (n : ℕ). if f true false then w.first else n) c.count.ensures) in
    let q : c.rest_from-second.result ≡ (if f false true then w.second else length b) =
    c.rest_from-second.ensures ∙ (ap (λ (t : Bool). if t then w.second else c.count-2.result) c.of-2.ensures
    ∙ ap (λ (n : ℕ). if f false true then w.second else n) c.count-2.ensures) in
    few_filled f a b c.args.out.now c.pass_all-walk.new.out w.first w.second w.written
    c.rest_from-first.result c.rest_from-second.result c.put_rest-written.result c.put_rest.result
    c.pass_all-walk.ensures.walks p q c.put_rest-written.ensures.next c.put_rest.ensures.next
