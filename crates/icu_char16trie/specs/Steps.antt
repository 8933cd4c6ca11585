-- The step of a unit from a position, on all units: if a unit that is needed is missing, nothing
-- matches.
use Rattle.std.specs.Prelude.{◌≡◌, ◌≢◌, ℕ, ◌+◌, ◌-◌, ◌/◌, ◌%◌, ◌<◌, ◌≤◌, List, [], ◌∷◌, Option, Some, None, slice_get, ◌==◌, if◌then◌else◌}
use Rattle.std.specs.Bool.{then_some}
use Rattle.icu_char16trie.specs.Constants.{max_branch_linear_sub_node_length, min_linear_match, min_value_lead, value_is_final}
use Rattle.icu_char16trie.specs.Numbers.{short_end, node_end, delta_end, entry_child, lower_part}
use Rattle.icu_char16trie.specs.declared.place.Place.{Place}
use Rattle.icu_char16trie.specs.declared.place.Place.TheVariants.{Nowhere, Node, Run}

-- In a row of n entries at p the unit u leads to the node at r.
pub data InRow (units : List ℕ) (u : ℕ) : ℕ → ℕ → Option ℕ → Type 0 where
  gone : (p n : ℕ) (r : Option ℕ) → slice_get units p ≡ None → r ≡ None → InRow units u p n r
  last : (p n x : ℕ) (r : Option ℕ) → n ≤ 1 → slice_get units p ≡ Some x
      → r ≡ then_some (x == u) (p + 1) → InRow units u p n r
  cut : (p n x : ℕ) (r : Option ℕ) → 1 < n → slice_get units p ≡ Some x
      → slice_get units (p + 1) ≡ None → r ≡ None
      → InRow units u p n r
  here : (p n v : ℕ) (r : Option ℕ) → 1 < n → slice_get units p ≡ Some u
      → slice_get units (p + 1) ≡ Some v
      → r ≡ entry_child units (p + 2) v → InRow units u p n r
  on : (p n x v : ℕ) (r : Option ℕ) → 1 < n → slice_get units p ≡ Some x → x ≢ u
      → slice_get units (p + 1) ≡ Some v
      → InRow units u (short_end (p + 2) (v % value_is_final)) (n - 1) r → InRow units u p n r

-- In a part of a branch with n entries at p the unit u leads to the node at r.
pub data InPart (units : List ℕ) (u : ℕ) : ℕ → ℕ → Option ℕ → Type 0 where
  row : (p n : ℕ) (r : Option ℕ) → n ≤ max_branch_linear_sub_node_length → InRow units u p n r
      → InPart units u p n r
  no_split : (p n : ℕ) (r : Option ℕ) → max_branch_linear_sub_node_length < n
      → slice_get units p ≡ None → r ≡ None → InPart units u p n r
  no_delta : (p n s : ℕ) (r : Option ℕ) → max_branch_linear_sub_node_length < n
      → slice_get units p ≡ Some s
      → slice_get units (p + 1) ≡ None → r ≡ None
      → InPart units u p n r
  cut_delta : (p n s d : ℕ) (r : Option ℕ) → max_branch_linear_sub_node_length < n
      → slice_get units p ≡ Some s → u < s → slice_get units (p + 1) ≡ Some d
      → lower_part units (p + 2) d ≡ None → r ≡ None → InPart units u p n r
  lower : (p n s d q : ℕ) (r : Option ℕ) → max_branch_linear_sub_node_length < n
      → slice_get units p ≡ Some s → u < s → slice_get units (p + 1) ≡ Some d
      → lower_part units (p + 2) d ≡ Some q → InPart units u q (n / 2) r → InPart units u p n r
  upper : (p n s d : ℕ) (r : Option ℕ) → max_branch_linear_sub_node_length < n
      → slice_get units p ≡ Some s → s ≤ u → slice_get units (p + 1) ≡ Some d
      → InPart units u (delta_end (p + 2) d) (n - n / 2) r → InPart units u p n r

-- The position that a branch leads to.
abbrev pub child_place : Option ℕ → Place
child_place None = Nowhere
child_place (Some q) = Node q

-- The position after the next unit of a linear match. That unit is at p, and `left` more follow it.
abbrev pub run_place : ℕ → ℕ → ℕ → Option ℕ → Place
run_place p left u None = Nowhere
run_place p left u (Some x) =
    if x == u then (if left == 0 then Node (p + 1) else Run (p + 1) (left - 1)) else Nowhere

-- At the match node with these low six bits the unit u leads to a position. p is the index after
-- the node's lead and its value.
pub data InMatch (units : List ℕ) (u : ℕ) : ℕ → ℕ → Place → Type 0 where
  in_run : (p low : ℕ) (to : Place) → min_linear_match ≤ low
      → to ≡ run_place p (low - min_linear_match) u (slice_get units p) → InMatch units u p low to
  in_short : (p low : ℕ) (r : Option ℕ) (to : Place) → 0 < low → low < min_linear_match
      → InPart units u p (low + 1) r → to ≡ child_place r
      → InMatch units u p low to
  in_long : (p low n : ℕ) (r : Option ℕ) (to : Place) → low ≡ 0 → slice_get units p ≡ Some n
      → InPart units u (p + 1) (n + 1) r
      → to ≡ child_place r → InMatch units u p low to
  no_length : (p low : ℕ) (to : Place) → low ≡ 0 → slice_get units p ≡ None → to ≡ Nowhere
      → InMatch units u p low to

-- At the node at p the unit u leads to a position, by the node's lead unit. An intermediate value
-- is skipped, even if it is cut off.
pub data InNode (units : List ℕ) (u : ℕ) : ℕ → Place → Type 0 where
  no_lead : (p : ℕ) (to : Place) → slice_get units p ≡ None → to ≡ Nowhere → InNode units u p to
  at_final : (p lead : ℕ) (to : Place) → slice_get units p ≡ Some lead → value_is_final ≤ lead
      → to ≡ Nowhere → InNode units u p to
  at_plain : (p lead : ℕ) (to : Place) → slice_get units p ≡ Some lead → lead < min_value_lead
      → InMatch units u (p + 1) lead to
      → InNode units u p to
  at_valued : (p lead : ℕ) (to : Place) → slice_get units p ≡ Some lead → min_value_lead ≤ lead
      → lead < value_is_final
      → InMatch units u (node_end (p + 1) lead) (lead % min_value_lead) to → InNode units u p to

-- A unit leads from one position to another.
abbrev pub StepsTo : List ℕ → Place → ℕ → Place → Type 0
StepsTo units Nowhere u to = to ≡ Nowhere
StepsTo units (Node p) u to = InNode units u p to
StepsTo units (Run p left) u to = to ≡ run_place p left u (slice_get units p)

-- Units lead from one position to another, one after the other.
abbrev pub StepsAlong : List ℕ → Place → List ℕ → Place → Type 0
StepsAlong units from [] to = to ≡ from
StepsAlong units from (u ∷ w) to =
    (next : Place) × StepsTo units from u next × StepsAlong units next w to
