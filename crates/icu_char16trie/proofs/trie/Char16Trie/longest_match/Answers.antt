use Rattle.icu_zerovec.specs.Slice.{slice_values}
use Rattle.std.proofs.Common.{◌≡◌, ◌+◌, ◌≤◌, ◌∙◌, sym, arith, length, drop}
use Rattle.icu_char16trie.specs.Inside.Fronts.{LeadsToNode}
use Rattle.icu_char16trie.specs.declared.place.Place.TheVariants.{Node}
use Rattle.icu_char16trie.proofs.LongestLemmas.{at_next_node, at_root, ends_at, ends_before, goes_to, none_above_final, none_above_match, rest_is, within_text}
use Rattle.icu_char16trie.proofs.StandsLemmas.{stepped_is_longest}
use Rattle.icu_char16trie.proofs.trie.Char16Trie.longest_match.Goals as goal

pub loop-lead-init : goal.loop-lead-init
loop-lead-init c = at_root c.args.self.now c.args.text.now

pub returns-clause-exact : goal.returns-clause-exact
returns-clause-exact c =
    let same : slice_values c.as_slice-units.result ≡ c.args.self.now = c.as_slice-units.ensures ∙ c.self.view_is in
    rw (← same)
    (ends_before (slice_values c.as_slice-units.result) c.args.text.now c.loop-lead.passed c.loop-lead.node c.loop-lead.found
    (rw (← same) at c.loop-lead.invariant) (sym c.in_default.ensures.unit))

pub returns-then-lead-ge-VALUE_IS_FINAL-clause-exact : goal.returns-then-lead-ge-VALUE_IS_FINAL-clause-exact
returns-then-lead-ge-VALUE_IS_FINAL-clause-exact c =
    let same : slice_values c.as_slice-units.result ≡ c.args.self.now = c.as_slice-units.ensures ∙ c.self.view_is in
    rw (← same)
    (ends_at (slice_values c.as_slice-units.result) c.args.text.now c.loop-lead.passed c.loop-lead.node c.in-Some.lead c.loop-lead.found _
    (rw (← same) at c.loop-lead.invariant) (sym c.in-Some.ensures.unit) (rw c.value_by.ensures at c.longer_match-found.ensures)
    (none_above_final _ _ c.loop-lead.passed c.loop-lead.node c.in-Some.lead (rw (← same) at c.loop-lead.invariant.steps)
    (sym c.in-Some.ensures.unit) c.if-lead-ge-VALUE_IS_FINAL.true))

pub returns-in_default-pass_match-clause-exact : goal.returns-in_default-pass_match-clause-exact
returns-in_default-pass_match-clause-exact c =
    let same : slice_values c.as_slice-units.result ≡ c.args.self.now = c.as_slice-units.ensures ∙ c.self.view_is in
    rw (← same)
    (ends_at (slice_values c.as_slice-units.result) c.args.text.now c.loop-lead.passed c.loop-lead.node c.in-Some.lead c.loop-lead.found _
    (rw (← same) at c.loop-lead.invariant) (sym c.in-Some.ensures.unit) (rw c.value_by.ensures at c.longer_match-found.ensures)
    (none_above_match _ _ c.loop-lead.passed c.loop-lead.node c.in-Some.lead c.node_end-place.result
    (rw (← same) at c.loop-lead.invariant.steps) (sym c.in-Some.ensures.unit) c.if-lead-ge-VALUE_IS_FINAL.false c.node_end-place.ensures.end
    (rw (rest_is c.args.text.now c.loop-lead.passed) at c.in_default-pass_match.ensures)))

pub returns-clause-longest : goal.returns-clause-longest
returns-clause-longest c = λ m trie. stepped_is_longest c.args.self.now m c.args.text.now _ _ trie (returns-clause-exact c)

pub returns-then-lead-ge-VALUE_IS_FINAL-clause-longest : goal.returns-then-lead-ge-VALUE_IS_FINAL-clause-longest
returns-then-lead-ge-VALUE_IS_FINAL-clause-longest c =
    λ m trie. stepped_is_longest c.args.self.now m c.args.text.now _ _ trie (returns-then-lead-ge-VALUE_IS_FINAL-clause-exact c)

pub returns-in_default-pass_match-clause-longest : goal.returns-in_default-pass_match-clause-longest
returns-in_default-pass_match-clause-longest c =
    λ m trie. stepped_is_longest c.args.self.now m c.args.text.now _ _ trie (returns-in_default-pass_match-clause-exact c)

-- The text continues to the next node.
leads_on : (c : goal.In-Some-pass_match)
    → LeadsToNode (slice_values c.as_slice-units.result) (Node c.loop-lead.node) (drop c.loop-lead.passed c.args.text.now)
    c.in-Some-pass_match.next c.in-Some-pass_match.count
leads_on c =
    goes_to (slice_values c.as_slice-units.result) c.args.text.now c.loop-lead.passed c.loop-lead.node c.in-Some.lead
    c.node_end-place.result
    c.in-Some-pass_match.next c.in-Some-pass_match.count (sym c.in-Some.ensures.unit) c.if-lead-ge-VALUE_IS_FINAL.false
    c.node_end-place.ensures.end
    (rw (rest_is c.args.text.now c.loop-lead.passed) at c.in-Some-pass_match.ensures)

stays_within : (c : goal.In-Some-pass_match) → c.loop-lead.passed + c.in-Some-pass_match.count ≤ length c.args.text.now
stays_within c = within_text (slice_values c.as_slice-units.result) c.args.text.now c.loop-lead.passed _ _ _ c.loop-lead.invariant.within
    (leads_on c)

pub overflow_add-passed : goal.overflow_add-passed
overflow_add-passed c = omega (arith, stays_within c)

pub loop-lead-smaller : goal.loop-lead-smaller
loop-lead-smaller c = let on = leads_on c in omega (arith, stays_within c, on.some)

pub loop-lead-preserved : goal.loop-lead-preserved
loop-lead-preserved c =
    let same : slice_values c.as_slice-units.result ≡ c.args.self.now = c.as_slice-units.ensures ∙ c.self.view_is in
    rw (← same)
    (at_next_node (slice_values c.as_slice-units.result) c.args.text.now c.loop-lead.passed c.loop-lead.node c.in-Some.lead
    c.in-Some-pass_match.count c.in-Some-pass_match.next c.loop-lead.found _
    (rw (← same) at c.loop-lead.invariant) (sym c.in-Some.ensures.unit) (rw c.value_by.ensures at c.longer_match-found.ensures)
    (leads_on c))
