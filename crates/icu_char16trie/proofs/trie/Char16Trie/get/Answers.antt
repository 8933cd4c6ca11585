use Rattle.icu_zerovec.specs.Slice.{slice_values}
use Rattle.std.proofs.Common.{◌≡◌, ◌+◌, ◌≤◌, ◌∙◌, Some, None, sym, arith, length, drop}
use Rattle.icu_char16trie.specs.Inside.Fronts.{LeadsToNode}
use Rattle.icu_char16trie.specs.declared.place.Place.TheVariants.{Node}
use Rattle.icu_char16trie.proofs.LongestLemmas.{along_on, goes_to, none_above_final, none_above_match, none_above_missing, none_at_end, rest_is, value_here, within_text}
use Rattle.icu_char16trie.proofs.StandsLemmas.{along_is_value}
use Rattle.icu_char16trie.proofs.trie.Char16Trie.get.Goals as goal

pub returns-in_err-lead-clause-exact : goal.returns-in_err-lead-clause-exact
returns-in_err-lead-clause-exact c =
    let same : slice_values c.as_slice-units.result ≡ c.args.self.now = c.as_slice-units.ensures ∙ c.self.view_is in
    rw (← same, c.from_residual.ensures)
    (none_at_end (slice_values c.as_slice-units.result) c.args.key.now c.loop-passed.passed c.loop-passed-test.true
    (none_above_missing _ _ c.loop-passed.passed c.loop-passed.node (rw (← same) at c.loop-passed.invariant.steps)
    (sym c.in_err-lead.ensures.unit)))

pub returns-then-lead-ge-VALUE_IS_FINAL-clause-exact : goal.returns-then-lead-ge-VALUE_IS_FINAL-clause-exact
returns-then-lead-ge-VALUE_IS_FINAL-clause-exact c =
    let same : slice_values c.as_slice-units.result ≡ c.args.self.now = c.as_slice-units.ensures ∙ c.self.view_is in
    rw (← same)
    (none_at_end (slice_values c.as_slice-units.result) c.args.key.now c.loop-passed.passed c.loop-passed-test.true
    (none_above_final _ _ c.loop-passed.passed c.loop-passed.node c.in_ok-lead.lead (rw (← same) at c.loop-passed.invariant.steps)
    (sym c.in_ok-lead.ensures.unit) c.if-lead-ge-VALUE_IS_FINAL.true))

pub returns-in_err-next-clause-exact : goal.returns-in_err-next-clause-exact
returns-in_err-next-clause-exact c =
    let same : slice_values c.as_slice-units.result ≡ c.args.self.now = c.as_slice-units.ensures ∙ c.self.view_is in
    rw (← same, c.from_residual-in_err-next.ensures)
    (none_at_end (slice_values c.as_slice-units.result) c.args.key.now c.loop-passed.passed c.loop-passed-test.true
    (none_above_match _ _ c.loop-passed.passed c.loop-passed.node c.in_ok-lead.lead c.node_end-place.result
    (rw (← same) at c.loop-passed.invariant.steps) (sym c.in_ok-lead.ensures.unit) c.if-lead-ge-VALUE_IS_FINAL.false
    c.node_end-place.ensures.end (rw (rest_is c.args.key.now c.loop-passed.passed) at c.in_err-next.ensures)))

-- The key continues to the next node.
leads_on : (c : goal.In_ok-next)
    → LeadsToNode (slice_values c.as_slice-units.result) (Node c.loop-passed.node) (drop c.loop-passed.passed c.args.key.now)
    c.in_ok-next.next c.in_ok-next.count
leads_on c =
    goes_to (slice_values c.as_slice-units.result) c.args.key.now c.loop-passed.passed c.loop-passed.node c.in_ok-lead.lead
    c.node_end-place.result c.in_ok-next.next c.in_ok-next.count (sym c.in_ok-lead.ensures.unit) c.if-lead-ge-VALUE_IS_FINAL.false
    c.node_end-place.ensures.end
    (rw (rest_is c.args.key.now c.loop-passed.passed) at c.in_ok-next.ensures)

stays_within : (c : goal.In_ok-next) → c.loop-passed.passed + c.in_ok-next.count ≤ length c.args.key.now
stays_within c =
    within_text (slice_values c.as_slice-units.result) c.args.key.now c.loop-passed.passed _ _ _ c.loop-passed.invariant.within (leads_on c)

pub overflow_add-passed : goal.overflow_add-passed
overflow_add-passed c = omega (arith, stays_within c)

pub loop-passed-smaller : goal.loop-passed-smaller
loop-passed-smaller c = let on = leads_on c in omega (arith, stays_within c, on.some)

pub loop-passed-preserved : goal.loop-passed-preserved
loop-passed-preserved c =
    let same : slice_values c.as_slice-units.result ≡ c.args.self.now = c.as_slice-units.ensures ∙ c.self.view_is in
    record {
      within = stays_within c;
      steps = rw (← same)
          (along_on (slice_values c.as_slice-units.result) c.args.key.now c.loop-passed.passed c.loop-passed.node c.in_ok-next.count
          c.in_ok-next.next (rw (← same) at c.loop-passed.invariant.steps) (leads_on c));
    }

pub returns-in_err-last-clause-exact : goal.returns-in_err-last-clause-exact
returns-in_err-last-clause-exact c =
    let same : slice_values c.as_slice-units.result ≡ c.args.self.now = c.as_slice-units.ensures ∙ c.self.view_is in
    rw (← same, c.from_residual-in_err-last.ensures)
    (value_here (slice_values c.as_slice-units.result) c.args.key.now c.loop-passed.passed c.loop-passed.node None
    (omega (arith, c.loop-passed.invariant.within, c.loop-passed-test.false)) (rw (← same) at c.loop-passed.invariant.steps)
    (sym c.in_err-last.ensures.unit))

pub returns-clause-exact : goal.returns-clause-exact
returns-clause-exact c =
    let same : slice_values c.as_slice-units.result ≡ c.args.self.now = c.as_slice-units.ensures ∙ c.self.view_is in
    rw (← same, c.value_by.ensures)
    (value_here (slice_values c.as_slice-units.result) c.args.key.now c.loop-passed.passed c.loop-passed.node (Some c.in_ok-last.last)
    (omega (arith, c.loop-passed.invariant.within, c.loop-passed-test.false)) (rw (← same) at c.loop-passed.invariant.steps)
    (sym c.in_ok-last.ensures.unit))

pub returns-in_err-lead-clause-value : goal.returns-in_err-lead-clause-value
returns-in_err-lead-clause-value c =
    λ m trie. sym (along_is_value c.args.self.now m c.args.key.now _ trie (returns-in_err-lead-clause-exact c))

pub returns-then-lead-ge-VALUE_IS_FINAL-clause-value : goal.returns-then-lead-ge-VALUE_IS_FINAL-clause-value
returns-then-lead-ge-VALUE_IS_FINAL-clause-value c =
    λ m trie. sym (along_is_value c.args.self.now m c.args.key.now _ trie (returns-then-lead-ge-VALUE_IS_FINAL-clause-exact c))

pub returns-in_err-next-clause-value : goal.returns-in_err-next-clause-value
returns-in_err-next-clause-value c =
    λ m trie. sym (along_is_value c.args.self.now m c.args.key.now _ trie (returns-in_err-next-clause-exact c))

pub returns-in_err-last-clause-value : goal.returns-in_err-last-clause-value
returns-in_err-last-clause-value c =
    λ m trie. sym (along_is_value c.args.self.now m c.args.key.now _ trie (returns-in_err-last-clause-exact c))

pub returns-clause-value : goal.returns-clause-value
returns-clause-value c = λ m trie. sym (along_is_value c.args.self.now m c.args.key.now _ trie (returns-clause-exact c))
