use Rattle.std.proofs.Common.{◌≡◌, Bool, true, subst}
use Rattle.std.specs.Str.{chars}
use Rattle.icu_trie_text.specs.Indices.{with_indices}
use Rattle.icu_trie_text.proofs.FoundLemmas.{front_before, passed_boundary, passed_more, passed_none, whole_front}
use Rattle.icu_trie_text.proofs.find.span_of_values.Goals as goal

pub loop-offset-init : goal.loop-offset-init
loop-offset-init g c =
    let start : c.into_iter-offset-iterator.result ≡ with_indices c.args.trie.now 0 (chars c.args.text.now) = cc in
    rw start (passed_none _ c.args.accepts c.args.trie.now true c.args.text.now)

pub loop-offset-preserved : goal.loop-offset-preserved
loop-offset-preserved g c =
    let accepted = subst (λ (b : Bool). g.F.Fn.post c.args.accepts (c.in-Some.value, tt) b) c.if-not-accepts.false c.accepts.ensures in
    passed_more _ c.args.accepts c.args.trie.now true c.args.text.now (c.in-Some.offset, c.in-Some.field-0-1, c.in-Some.value)
    c.loop-offset.offset-iterator c.next.new.self c.loop-offset.invariant c.in-Some.ensures.steps accepted

pub returns-then-not-accepts-clause-front : goal.returns-then-not-accepts-clause-front
returns-then-not-accepts-clause-front g c =
    let refused = subst (λ (b : Bool). g.F.Fn.post c.args.accepts (c.in-Some.value, tt) b) c.if-not-accepts.true c.accepts.ensures in
    front_before _ c.args.accepts c.args.trie.now c.args.text.now (c.in-Some.offset, c.in-Some.field-0-1, c.in-Some.value)
    c.loop-offset.offset-iterator c.next.new.self c.in-Some.ensures.steps c.loop-offset.invariant refused

pub returns-then-not-accepts-clause-boundary : goal.returns-then-not-accepts-clause-boundary
returns-then-not-accepts-clause-boundary g c =
    passed_boundary _ c.args.accepts c.args.trie.now true c.args.text.now (c.in-Some.offset, c.in-Some.field-0-1, c.in-Some.value)
    c.loop-offset.offset-iterator c.next.new.self c.loop-offset.invariant c.in-Some.ensures.steps c.utf8.text

pub returns-clause-front : goal.returns-clause-front
returns-clause-front g c =
    whole_front _ c.args.accepts c.args.trie.now c.args.text.now c.loop-offset.offset-iterator c.utf8.text c.loop-offset.invariant
    c.in-None.ensures.steps.0
