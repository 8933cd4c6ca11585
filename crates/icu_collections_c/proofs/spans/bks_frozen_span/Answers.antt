use Rattle.std.proofs.Common.{◌^◌, ◌<◌, length, rules, w64, ℕ}
use Rattle.std.proofs.lemmas.Int.{to_z-of_z}
use Rattle.icu_invlist.specs.InversionList.{holds}
use Rattle.icu_frozen_sets.specs.FrozenWords.{is_held}
use Rattle.icu_collections_c.proofs.SpanLemmas.{answers_span, text_span}
use Rattle.icu_collections_c.proofs.spans.bks_frozen_span.Goals as goal

-- ---- the text starts with ASCII
pub returns-then-starts_plainly-clause-exact : goal.returns-then-starts_plainly-clause-exact
returns-then-starts_plainly-clause-exact c =
    let found = rw c.new-set.ensures at c.span_utf8.ensures.exact in
    let small : c.span_utf8.result < 2 ^ 63 = search rules in
    answers_span (is_held c.args.table.now) c.args.held c.args.text.now c.span_utf8.result small found
    (c.starts_plainly.ensures c.if-starts_plainly.true)

pub returns-then-starts_plainly-clause-text : goal.returns-then-starts_plainly-clause-text
returns-then-starts_plainly-clause-text c =
    text_span (is_held c.args.table.now) c.args.held c.args.text.now _ (returns-then-starts_plainly-clause-exact c)

pub returns-then-starts_plainly-clause-set : goal.returns-then-starts_plainly-clause-set
returns-then-starts_plainly-clause-set c = λ ends words rest f e.
    let found = (rw c.new-set.ensures at c.span_utf8.ensures.set) ends words rest f e in
    let small : c.span_utf8.result < 2 ^ 63 = search rules in
    answers_span (holds ends) c.args.held c.args.text.now c.span_utf8.result small found
    (c.starts_plainly.ensures c.if-starts_plainly.true)

pub returns-then-starts_plainly-clause-text_set : goal.returns-then-starts_plainly-clause-text_set
returns-then-starts_plainly-clause-text_set c = λ ends words rest f e.
    text_span (holds ends) c.args.held c.args.text.now _ (returns-then-starts_plainly-clause-set c ends words rest f e)

-- ---- it may start with no character
pub length_or_no_text-requires : goal.length_or_no_text-requires
length_or_no_text-requires c = c.span_utf8-2.ensures.exact.within

pub returns-clause-exact : goal.returns-clause-exact
returns-clause-exact c =
    let found = rw c.new-set.ensures at c.span_utf8-2.ensures.exact in
    rw (to_z-of_z w64 c.length_or_no_text.result (search rules))
    (c.length_or_no_text.ensures (is_held c.args.table.now) c.args.held found)

pub returns-clause-text : goal.returns-clause-text
returns-clause-text c = text_span (is_held c.args.table.now) c.args.held c.args.text.now _ (returns-clause-exact c)

pub returns-clause-set : goal.returns-clause-set
returns-clause-set c = λ ends words rest f e.
    let found = (rw c.new-set.ensures at c.span_utf8-2.ensures.set) ends words rest f e in
    rw (to_z-of_z w64 c.length_or_no_text.result (search rules)) (c.length_or_no_text.ensures (holds ends) c.args.held found)

pub returns-clause-text_set : goal.returns-clause-text_set
returns-clause-text_set c = λ ends words rest f e.
    text_span (holds ends) c.args.held c.args.text.now _ (returns-clause-set c ends words rest f e)
