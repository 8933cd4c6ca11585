use Rattle.std.proofs.Common.{◌≡◌, Bool, false, subst}
use Rattle.std.specs.Str.{chars}
use Rattle.icu_trie_text.specs.Indices.{with_indices}
use Rattle.icu_trie_text.proofs.FoundLemmas.{first_accepted, passed_all, passed_boundary, passed_more, passed_none}
use Rattle.icu_trie_text.proofs.find.find_value.Goals as goal

pub loop-offset-init : goal.loop-offset-init
loop-offset-init g c =
    let start : c.into_iter-offset-iterator.result ≡ with_indices c.args.trie.now 0 (chars c.args.text.now) = cc in
    rw start (passed_none _ c.args.accepts c.args.trie.now false c.args.text.now)

pub loop-offset-preserved : goal.loop-offset-preserved
loop-offset-preserved g c =
    let refused = subst (λ (b : Bool). g.F.Fn.post c.args.accepts (c.in-Some.value, tt) b) c.if-accepts.false c.accepts.ensures in
    passed_more _ c.args.accepts c.args.trie.now false c.args.text.now (c.in-Some.offset, c.in-Some.character, c.in-Some.value)
    c.loop-offset.offset-iterator c.next.new.self c.loop-offset.invariant c.in-Some.ensures.steps refused

pub returns-then-accepts-clause-found : goal.returns-then-accepts-clause-found
returns-then-accepts-clause-found g c =
    let accepted = subst (λ (b : Bool). g.F.Fn.post c.args.accepts (c.in-Some.value, tt) b) c.if-accepts.true c.accepts.ensures in
    first_accepted _ c.args.accepts c.args.trie.now c.args.text.now (c.in-Some.offset, c.in-Some.character, c.in-Some.value)
    c.loop-offset.offset-iterator c.next.new.self c.in-Some.ensures.steps c.loop-offset.invariant accepted

pub returns-then-accepts-clause-boundary : goal.returns-then-accepts-clause-boundary
returns-then-accepts-clause-boundary g c =
    passed_boundary _ c.args.accepts c.args.trie.now false c.args.text.now (c.in-Some.offset, c.in-Some.character, c.in-Some.value)
    c.loop-offset.offset-iterator c.next.new.self c.loop-offset.invariant c.in-Some.ensures.steps c.utf8.text

pub returns-clause-none : goal.returns-clause-none
returns-clause-none g c =
    passed_all _ c.args.accepts c.args.trie.now false c.args.text.now c.loop-offset.offset-iterator c.loop-offset.invariant
    c.in-None.ensures.steps.0
