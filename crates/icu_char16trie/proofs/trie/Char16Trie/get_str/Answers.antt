use Rattle.icu_zerovec.specs.Slice.{slice_values}
use Rattle.std.proofs.Common.{◌≡◌, ℕ, ◌<◌, ◌∙◌, None, Some, sym, refl, arith, length, drop}
use Rattle.icu_char16trie.specs.Matches.{text_units}
use Rattle.icu_char16trie.specs.Inside.Fronts.{LeadsToNode}
use Rattle.icu_char16trie.specs.Inside.Texts.{units_left}
use Rattle.icu_char16trie.specs.declared.place.Place.TheVariants.{Node}
use Rattle.icu_char16trie.proofs.LongestLemmas.{none_above_final, none_above_missing, none_at_end, value_here}
use Rattle.icu_char16trie.proofs.StandsLemmas.{along_is_value}
use Rattle.icu_char16trie.proofs.TextLemmas.{at_start, fewer_left, last_then, leads_on, none_after, none_on, read_on, within_rest}
use Rattle.icu_char16trie.proofs.trie.Char16Trie.get_str.Goals as goal
use Rattle.icu_char16trie.proofs.trie.Char16Trie.get_str.Goals.{In-Some}

pub loop-unit-init : goal.loop-unit-init
loop-unit-init c = record {
  units = record { utf8 = c.utf8.key; second = tt };
  at = at_start (slice_values c.as_slice-units.result) c.args.key.now _ refl refl;
}

some_left : (c : In-Some) → c.loop-unit.invariant.at.passed < length (text_units c.args.key.now)
some_left c =
    let more = within_rest (text_units c.args.key.now) _ c.in-Some.unit c.loop-unit.invariant.at.passed
    (sym c.in-Some.ensures.unit ∙ c.loop-unit.invariant.at.left) in
    omega (arith, more)

pub returns-in_err-lead-clause-exact : goal.returns-in_err-lead-clause-exact
returns-in_err-lead-clause-exact c =
    let at = c.loop-unit.invariant.at in
    let same : slice_values c.as_slice-units.result ≡ c.args.self.now = c.as_slice-units.ensures ∙ c.self.view_is in
    rw (← same, c.from_residual.ensures)
    (none_at_end (slice_values c.as_slice-units.result) (text_units c.args.key.now) at.passed
    (some_left (goal.at.returns-in_err-lead-clause-exact c).In-Some)
    (none_above_missing _ _ at.passed c.loop-unit.node at.steps (sym c.in_err-lead.ensures.unit)))

pub returns-then-lead-ge-VALUE_IS_FINAL-clause-exact : goal.returns-then-lead-ge-VALUE_IS_FINAL-clause-exact
returns-then-lead-ge-VALUE_IS_FINAL-clause-exact c =
    let at = c.loop-unit.invariant.at in
    let same : slice_values c.as_slice-units.result ≡ c.args.self.now = c.as_slice-units.ensures ∙ c.self.view_is in
    rw (← same)
    (none_at_end (slice_values c.as_slice-units.result) (text_units c.args.key.now) at.passed
    (some_left (goal.at.returns-then-lead-ge-VALUE_IS_FINAL-clause-exact c).In-Some)
    (none_above_final _ _ at.passed c.loop-unit.node c.in_ok-lead.lead at.steps (sym c.in_ok-lead.ensures.unit)
    c.if-lead-ge-VALUE_IS_FINAL.true))

pub returns-in_err-node-clause-exact : goal.returns-in_err-node-clause-exact
returns-in_err-node-clause-exact c =
    let at = c.loop-unit.invariant.at in
    let same : slice_values c.as_slice-units.result ≡ c.args.self.now = c.as_slice-units.ensures ∙ c.self.view_is in
    rw (← same, c.from_residual-in_err-node.ensures)
    (none_at_end (slice_values c.as_slice-units.result) (text_units c.args.key.now) at.passed
    (some_left (goal.at.returns-in_err-node-clause-exact c).In-Some)
    (none_on _ c.args.key.now (units_left c.pass_units.new.text) c.loop-unit.text c.next_unit.new.self c.loop-unit.node c.in_ok-lead.lead c.node_end-place.result
    c.in-Some.unit at c.in-Some.ensures.unit (sym c.in_ok-lead.ensures.unit) c.if-lead-ge-VALUE_IS_FINAL.false
    c.node_end-place.ensures.end c.in_err-node.ensures.passes))

-- The text continues to the next node.
next_node : (c : goal.In_ok-node)
    → (n : ℕ) × LeadsToNode (slice_values c.as_slice-units.result) (Node c.loop-unit.node)
    (drop c.loop-unit.invariant.at.passed (text_units c.args.key.now)) c.in_ok-node.node n
    × (units_left c.pass_units.new.text ≡ drop n (drop c.loop-unit.invariant.at.passed (text_units c.args.key.now)))
next_node c =
    leads_on (slice_values c.as_slice-units.result) c.args.key.now c.loop-unit.text c.next_unit.new.self c.pass_units.new.text
    c.loop-unit.node c.in_ok-lead.lead c.node_end-place.result c.in-Some.unit c.in_ok-node.node c.loop-unit.invariant.at
    c.in-Some.ensures.unit (sym c.in_ok-lead.ensures.unit) c.if-lead-ge-VALUE_IS_FINAL.false c.node_end-place.ensures.end
    c.in_ok-node.ensures.passes

pub loop-unit-smaller : goal.loop-unit-smaller
loop-unit-smaller c =
    let on = next_node c in
    fewer_left (slice_values c.as_slice-units.result) c.args.key.now c.loop-unit.text c.pass_units.new.text c.loop-unit.node on.0
    c.in_ok-node.node c.loop-unit.invariant.at on.1 on.2

pub loop-unit-preserved : goal.loop-unit-preserved
loop-unit-preserved c =
    let on = next_node c in
    record {
      units = c.in_ok-node.ensures.units;
      at = read_on (slice_values c.as_slice-units.result) c.args.key.now c.loop-unit.text c.pass_units.new.text c.loop-unit.node on.0
          c.in_ok-node.node c.loop-unit.invariant.at (last_then c.in-Some.ensures.last c.in_ok-node.ensures.last) on.1 on.2;
    }

pub returns-in_err-last-clause-exact : goal.returns-in_err-last-clause-exact
returns-in_err-last-clause-exact c =
    let at = c.loop-unit.invariant.at in
    let same : slice_values c.as_slice-units.result ≡ c.args.self.now = c.as_slice-units.ensures ∙ c.self.view_is in
    let over = none_after (text_units c.args.key.now) at.passed (sym c.in_default.ensures.unit ∙ at.left) in
    rw (← same, c.from_residual-in_err-last.ensures)
    (value_here (slice_values c.as_slice-units.result) (text_units c.args.key.now) at.passed c.loop-unit.node None
    (omega (arith, at.within, over)) at.steps (sym c.in_err-last.ensures.unit))

pub returns-clause-exact : goal.returns-clause-exact
returns-clause-exact c =
    let at = c.loop-unit.invariant.at in
    let same : slice_values c.as_slice-units.result ≡ c.args.self.now = c.as_slice-units.ensures ∙ c.self.view_is in
    let over = none_after (text_units c.args.key.now) at.passed (sym c.in_default.ensures.unit ∙ at.left) in
    rw (← same, c.value_by.ensures)
    (value_here (slice_values c.as_slice-units.result) (text_units c.args.key.now) at.passed c.loop-unit.node (Some c.in_ok-last.last)
    (omega (arith, at.within, over)) at.steps (sym c.in_ok-last.ensures.unit))

pub returns-in_err-lead-clause-value : goal.returns-in_err-lead-clause-value
returns-in_err-lead-clause-value c =
    λ m trie. sym (along_is_value c.args.self.now m (text_units c.args.key.now) _ trie (returns-in_err-lead-clause-exact c))

pub returns-then-lead-ge-VALUE_IS_FINAL-clause-value : goal.returns-then-lead-ge-VALUE_IS_FINAL-clause-value
returns-then-lead-ge-VALUE_IS_FINAL-clause-value c =
    λ m trie. sym (along_is_value c.args.self.now m (text_units c.args.key.now) _ trie (returns-then-lead-ge-VALUE_IS_FINAL-clause-exact c))

pub returns-in_err-node-clause-value : goal.returns-in_err-node-clause-value
returns-in_err-node-clause-value c =
    λ m trie. sym (along_is_value c.args.self.now m (text_units c.args.key.now) _ trie (returns-in_err-node-clause-exact c))

pub returns-in_err-last-clause-value : goal.returns-in_err-last-clause-value
returns-in_err-last-clause-value c =
    λ m trie. sym (along_is_value c.args.self.now m (text_units c.args.key.now) _ trie (returns-in_err-last-clause-exact c))

pub returns-clause-value : goal.returns-clause-value
returns-clause-value c =
    λ m trie. sym (along_is_value c.args.self.now m (text_units c.args.key.now) _ trie (returns-clause-exact c))
