use Rattle.icu_zerovec.specs.Slice.{slice_values}
use Rattle.std.proofs.Common.{sym, ◌∙◌, refl, ap, ◌≡◌}
use Rattle.icu_char16trie.specs.UnitMap.{after}
use Rattle.icu_char16trie.specs.Steps.{no_lead, at_final, at_plain, at_valued}
use Rattle.icu_char16trie.proofs.NodeLemmas.{holds_final, holds_valued}
use Rattle.icu_char16trie.proofs.step.step_in_node.Goals as goal

pub returns-then-lead-ge-VALUE_IS_FINAL-clause-stands : goal.returns-then-lead-ge-VALUE_IS_FINAL-clause-stands
unfolding after
returns-then-lead-ge-VALUE_IS_FINAL-clause-stands c = λ m h.
    let f = holds_final (slice_values c.args.units) h c.in-Some.lead (sym c.in-Some.ensures.unit) c.if-lead-ge-VALUE_IS_FINAL.true in
    rw f.2 refl

pub returns-clause-stands : goal.returns-clause-stands
unfolding after
returns-clause-stands c = λ m h.
    let f = holds_valued (slice_values c.args.units) h c.in-Some.lead (sym c.in-Some.ensures.unit) c.if-lead-lt-MIN_VALUE_LEAD.false
    c.if-lead-ge-VALUE_IS_FINAL.false in
    let skipped : after c.args.unit m ≡ after c.args.unit f.rest = ap (after c.args.unit) f.is in
    rw skipped (c.step_in_match-2.ensures.stands f.rest (rw c.node_end.ensures.end f.node))

pub returns-in_default-clause-exact : goal.returns-in_default-clause-exact
returns-in_default-clause-exact c = no_lead _ _ (sym c.unit_at.ensures.unit ∙ c.in_default.is) refl

pub returns-then-lead-ge-VALUE_IS_FINAL-clause-exact : goal.returns-then-lead-ge-VALUE_IS_FINAL-clause-exact
returns-then-lead-ge-VALUE_IS_FINAL-clause-exact c =
    at_final _ c.in-Some.lead _ (sym c.in-Some.ensures.unit) c.if-lead-ge-VALUE_IS_FINAL.true refl

pub returns-then-lead-lt-MIN_VALUE_LEAD-clause-exact : goal.returns-then-lead-lt-MIN_VALUE_LEAD-clause-exact
returns-then-lead-lt-MIN_VALUE_LEAD-clause-exact c =
    at_plain _ c.in-Some.lead _ (sym c.in-Some.ensures.unit) c.if-lead-lt-MIN_VALUE_LEAD.true
    c.step_in_match.ensures.exact

pub returns-clause-exact : goal.returns-clause-exact
returns-clause-exact c =
    at_valued _ c.in-Some.lead _ (sym c.in-Some.ensures.unit) c.if-lead-lt-MIN_VALUE_LEAD.false c.if-lead-ge-VALUE_IS_FINAL.false
    (rw c.node_end.ensures.end at c.step_in_match-2.ensures.exact)
