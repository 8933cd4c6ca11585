use Rattle.icu_zerovec.specs.Slice.{slice_values}
use Rattle.std.proofs.Common.{◌≡◌, ℕ, ℤ, ◌+◌, ◌∙◌, List, Option, arith, ap, drop, refl, subst, sym}
use Rattle.std.specs.Prelude.{IfSome, option_and_then}
use Rattle.std.specs.Str.{IsCharBoundary, IsUtf8}
use Rattle.icu_char16trie.specs.Grammar.{IsTrieOf}
use Rattle.icu_char16trie.specs.Matches.{IsLongestInText, IsLongestSteppedInText, text_units}
use Rattle.icu_char16trie.specs.UnitMap.{UnitMap}
use Rattle.icu_char16trie.specs.UnitPlaces.{value_by}
use Rattle.icu_char16trie.specs.Inside.Fronts.{LeadsToNode}
use Rattle.icu_char16trie.specs.Inside.Texts.{units_left}
use Rattle.icu_char16trie.specs.declared.place.Place.TheVariants.{Node}
use Rattle.icu_char16trie.proofs.CharFronts.{ends_at_boundary}
use Rattle.icu_char16trie.proofs.LongestLemmas.{NoneAbove, none_above_final, none_above_missing}
use Rattle.icu_char16trie.proofs.LongestTextLemmas.{IsFound, bytes_of, ends_in_text, found_on, looked_up, none_found, not_looked_up}
use Rattle.icu_char16trie.proofs.StandsLemmas.{stepped_is_longest_text}
use Rattle.icu_char16trie.proofs.TextLemmas.{at_start, fewer_left, last_then, leads_on, none_after, none_on, read_on}
use Rattle.icu_char16trie.proofs.trie.Char16Trie.longest_match_str.Goals as goal
use Rattle.icu_char16trie.proofs.trie.Char16Trie.longest_match_str.Goals.{After-longer_match-found}

pub loop-lead-init : goal.loop-lead-init
loop-lead-init c =
    record {
      units = record { utf8 = c.utf8.text; second = tt };
      at = at_start (slice_values c.as_slice-units.result) c.args.text.now _ refl refl;
      longest = none_found (slice_values c.as_slice-units.result) c.args.text.now;
    }

pub longer_match-found-requires : goal.longer_match-found-requires
longer_match-found-requires c =
    let at = c.loop-lead.invariant.at in
    omega (arith, bytes_of c.args.text.now c.loop-lead.left.rest.now at.front c.utf8.text c.loop-lead.invariant.units.utf8 at.last)

-- The clauses of the contract, if no longer prefix has a value.
clauses : (units now text : List ℕ) (i : ℕ) (result : Option (ℕ × ℤ)) → units ≡ now → IsUtf8 text → NoneAbove units (text_units text) i
    → IsFound units text (i + 1) result
    → record {
      longest : (m : UnitMap) → IsTrieOf now m → IsLongestInText m text result;
      exact : IsLongestSteppedInText now text result;
      boundary : IfSome result (λ found. IsCharBoundary text found.0);
    }
clauses units now text i result same utf8 none found =
    let h = ends_in_text units text i result none found in
    let exact : IsLongestSteppedInText now text result = subst (λ z. IsLongestSteppedInText z text result) same h in
    record {
      longest = λ m trie. stepped_is_longest_text now m text result trie exact;
      exact = exact;
      boundary = rw h.2 (ends_at_boundary text h.0 utf8);
    }

-- The value of the node is looked up.
here : (c : After-longer_match-found)
    → IsFound (slice_values c.as_slice-units.result) c.args.text.now (c.loop-lead.invariant.at.passed + 1) c.longer_match-found.result
here c =
    looked_up (slice_values c.as_slice-units.result) c.args.text.now c.loop-lead.left c.loop-lead.node
    (value_by (slice_values c.as_slice-units.result) (c.loop-lead.node + 1) c.in-Some.lead) c.loop-lead.found c.longer_match-found.result
    c.utf8.text c.loop-lead.invariant.units
    (ap (option_and_then (value_by (slice_values c.as_slice-units.result) (c.loop-lead.node + 1))) (sym c.in-Some.ensures.unit))
    (rw c.value_by.ensures at c.longer_match-found.ensures) c.loop-lead.invariant.at c.loop-lead.invariant.longest

pub returns-then-lead-ge-VALUE_IS_FINAL : goal.returns-then-lead-ge-VALUE_IS_FINAL
returns-then-lead-ge-VALUE_IS_FINAL c =
    let at = c.loop-lead.invariant.at in
    clauses (slice_values c.as_slice-units.result) c.args.self.now c.args.text.now at.passed c.longer_match-found.result
    (c.as_slice-units.ensures ∙ c.self.view_is) c.utf8.text
    (none_above_final _ _ at.passed c.loop-lead.node c.in-Some.lead at.steps (sym c.in-Some.ensures.unit) c.if-lead-ge-VALUE_IS_FINAL.true)
    (here (goal.at.returns-then-lead-ge-VALUE_IS_FINAL c).After-longer_match-found)

pub returns-in_default-next_unit : goal.returns-in_default-next_unit
returns-in_default-next_unit c =
    let at = c.loop-lead.invariant.at in
    let over = none_after (text_units c.args.text.now) at.passed (sym c.in_default-next_unit.ensures.unit ∙ at.left) in
    clauses (slice_values c.as_slice-units.result) c.args.self.now c.args.text.now at.passed c.longer_match-found.result
    (c.as_slice-units.ensures ∙ c.self.view_is) c.utf8.text (λ k above within. absurd (omega (arith, above, within, over)))
    (here (goal.at.returns-in_default-next_unit c).After-longer_match-found)

pub returns-in_default-pass_units : goal.returns-in_default-pass_units
returns-in_default-pass_units c =
    let at = c.loop-lead.invariant.at in
    clauses (slice_values c.as_slice-units.result) c.args.self.now c.args.text.now at.passed c.longer_match-found.result
    (c.as_slice-units.ensures ∙ c.self.view_is) c.utf8.text
    (none_on _ c.args.text.now (units_left c.pass_units.new.text) c.loop-lead.left c.next_unit.new.self c.loop-lead.node c.in-Some.lead c.node_end-place.result
    c.in-Some-next_unit.unit at c.in-Some-next_unit.ensures.unit (sym c.in-Some.ensures.unit) c.if-lead-ge-VALUE_IS_FINAL.false
    c.node_end-place.ensures.end c.in_default-pass_units.ensures.passes)
    (here (goal.at.returns-in_default-pass_units c).After-longer_match-found)

-- The text continues to the next node.
next_node : (c : goal.In-Some-pass_units)
    → (n : ℕ) × LeadsToNode (slice_values c.as_slice-units.result) (Node c.loop-lead.node)
    (drop c.loop-lead.invariant.at.passed (text_units c.args.text.now)) c.in-Some-pass_units.next n
    × (units_left c.pass_units.new.text ≡ drop n (drop c.loop-lead.invariant.at.passed (text_units c.args.text.now)))
next_node c =
    leads_on (slice_values c.as_slice-units.result) c.args.text.now c.loop-lead.left c.next_unit.new.self c.pass_units.new.text
    c.loop-lead.node c.in-Some.lead c.node_end-place.result c.in-Some-next_unit.unit c.in-Some-pass_units.next c.loop-lead.invariant.at
    c.in-Some-next_unit.ensures.unit (sym c.in-Some.ensures.unit) c.if-lead-ge-VALUE_IS_FINAL.false c.node_end-place.ensures.end
    c.in-Some-pass_units.ensures.passes

pub loop-lead-smaller : goal.loop-lead-smaller
loop-lead-smaller c =
    let on = next_node c in
    fewer_left (slice_values c.as_slice-units.result) c.args.text.now c.loop-lead.left c.pass_units.new.text c.loop-lead.node on.0
    c.in-Some-pass_units.next c.loop-lead.invariant.at on.1 on.2

pub loop-lead-preserved : goal.loop-lead-preserved
loop-lead-preserved c =
    let at = c.loop-lead.invariant.at in
    let on = next_node c in
    record {
      units = c.in-Some-pass_units.ensures.units;
      at = read_on (slice_values c.as_slice-units.result) c.args.text.now c.loop-lead.left c.pass_units.new.text c.loop-lead.node on.0
          c.in-Some-pass_units.next at (last_then c.in-Some-next_unit.ensures.last c.in-Some-pass_units.ensures.last) on.1 on.2;
      longest = found_on (slice_values c.as_slice-units.result) c.args.text.now c.loop-lead.left c.loop-lead.node on.0
          c.in-Some-pass_units.next c.longer_match-found.result at on.1 (here (goal.at.loop-lead-preserved c).After-longer_match-found);
    }

pub returns : goal.returns
returns c =
    let at = c.loop-lead.invariant.at in
    clauses (slice_values c.as_slice-units.result) c.args.self.now c.args.text.now at.passed c.loop-lead.found
    (c.as_slice-units.ensures ∙ c.self.view_is) c.utf8.text
    (none_above_missing _ _ at.passed c.loop-lead.node at.steps (sym c.in_default.ensures.unit))
    (not_looked_up (slice_values c.as_slice-units.result) c.args.text.now c.loop-lead.left c.loop-lead.node c.loop-lead.found
    c.utf8.text c.loop-lead.invariant.units
    (ap (option_and_then (value_by (slice_values c.as_slice-units.result) (c.loop-lead.node + 1))) (sym c.in_default.ensures.unit))
    at c.loop-lead.invariant.longest)
