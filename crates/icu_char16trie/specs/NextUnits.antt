-- The units that can come next in some key.
use Rattle.std.specs.Prelude.{◌≡◌, ℕ, ◌+◌, ◌-◌, ◌/◌, ◌%◌, ◌<◌, ◌≤◌, ◌==◌, List, [], ◌∷◌, ◌++◌, Option, Some, None, slice_get, if◌then◌else◌}
use Rattle.icu_char16trie.specs.Constants.{max_branch_linear_sub_node_length, min_linear_match, min_value_lead, value_is_final}
use Rattle.icu_char16trie.specs.Numbers.{short_end, node_end, delta_end, lower_part}
use Rattle.icu_char16trie.specs.UnitMap.{UnitMap}
use Rattle.icu_char16trie.specs.declared.place.Place.{Place}
use Rattle.icu_char16trie.specs.declared.place.Place.TheVariants.{Nowhere, Node, Run}

-- The units without the first one, if that is u.
abbrev pub without_first : ℕ → List ℕ → List ℕ
without_first u [] = []
without_first u (x ∷ us) = if x == u then us else x ∷ us

-- The first units of the keys, each once. Keys ascend, so keys that start with the same unit are
-- adjacent.
unfoldable pub first_units : UnitMap → List ℕ
first_units [] = []
first_units (([], v) ∷ m) = first_units m
first_units ((u ∷ key, v) ∷ m) = u ∷ without_first u (first_units m)

-- Every unit of the list is above u.
abbrev pub AllAbove : ℕ → List ℕ → Type 0
AllAbove u [] = Unit {0}
AllAbove u (x ∷ us) = (u < x) × AllAbove u us

-- The units strictly ascend.
abbrev pub AreAscending : List ℕ → Type 0
AreAscending [] = Unit {0}
AreAscending (u ∷ us) = AllAbove u us × AreAscending us

-- The units of the entries of a row of n entries at p, as far as they are there.
pub data RowUnits (units : List ℕ) : ℕ → ℕ → List ℕ → Type 0 where
  gone : (p n : ℕ) (us : List ℕ) → n ≤ 1 → slice_get units p ≡ None → us ≡ []
      → RowUnits units p n us
  last : (p n u : ℕ) (us : List ℕ) → n ≤ 1 → slice_get units p ≡ Some u → us ≡ u ∷ []
      → RowUnits units p n us
  cut : (p n : ℕ) (us : List ℕ) → 1 < n → slice_get units (p + 1) ≡ None → us ≡ []
      → RowUnits units p n us
  more : (p n u v : ℕ) (rest us : List ℕ) → 1 < n → slice_get units p ≡ Some u
      → slice_get units (p + 1) ≡ Some v
      → RowUnits units (short_end (p + 2) (v % value_is_final)) (n - 1) rest → us ≡ u ∷ rest
      → RowUnits units p n us

-- The units of the entries of a part of a branch with n entries at p: those of the lower part and
-- then those of the upper part. If the delta is cut off, there are none of the lower part.
pub data PartUnits (units : List ℕ) : ℕ → ℕ → List ℕ → Type 0 where
  row : (p n : ℕ) (us : List ℕ) → n ≤ max_branch_linear_sub_node_length → RowUnits units p n us
      → PartUnits units p n us
  no_split : (p n : ℕ) (us : List ℕ) → max_branch_linear_sub_node_length < n
      → slice_get units (p + 1) ≡ None → us ≡ [] → PartUnits units p n us
  no_lower : (p n d : ℕ) (us : List ℕ) → max_branch_linear_sub_node_length < n
      → slice_get units (p + 1) ≡ Some d
      → lower_part units (p + 2) d ≡ None
      → PartUnits units (delta_end (p + 2) d) (n - n / 2) us → PartUnits units p n us
  both : (p n d low : ℕ) (lower upper us : List ℕ) → max_branch_linear_sub_node_length < n
      → slice_get units (p + 1) ≡ Some d
      → lower_part units (p + 2) d ≡ Some low → PartUnits units low (n / 2) lower
      → PartUnits units (delta_end (p + 2) d) (n - n / 2) upper → us ≡ lower ++ upper
      → PartUnits units p n us

-- The unit as a list, empty if it is missing.
abbrev pub unit_list : Option ℕ → List ℕ
unit_list None = []
unit_list (Some u) = u ∷ []

-- The units that can come next at the match node with these low six bits. p is the index after its
-- lead and its value.
pub data MatchUnits (units : List ℕ) : ℕ → ℕ → List ℕ → Type 0 where
  in_run : (p low : ℕ) (us : List ℕ) → min_linear_match ≤ low → us ≡ unit_list (slice_get units p)
      → MatchUnits units p low us
  in_short : (p low : ℕ) (us : List ℕ) → 0 < low → low < min_linear_match
      → PartUnits units p (low + 1) us → MatchUnits units p low us
  in_long : (p low n : ℕ) (us : List ℕ) → low ≡ 0 → slice_get units p ≡ Some n
      → PartUnits units (p + 1) (n + 1) us → MatchUnits units p low us
  no_length : (p low : ℕ) (us : List ℕ) → low ≡ 0 → slice_get units p ≡ None → us ≡ []
      → MatchUnits units p low us

-- The units that can come next at the node at p, by its lead unit.
pub data NodeUnits (units : List ℕ) : ℕ → List ℕ → Type 0 where
  no_lead : (p : ℕ) (us : List ℕ) → slice_get units p ≡ None → us ≡ [] → NodeUnits units p us
  at_final : (p lead : ℕ) (us : List ℕ) → slice_get units p ≡ Some lead → value_is_final ≤ lead
      → us ≡ [] → NodeUnits units p us
  at_match : (p lead : ℕ) (us : List ℕ) → slice_get units p ≡ Some lead → lead < value_is_final
      → MatchUnits units (node_end (p + 1) lead) (lead % min_value_lead) us → NodeUnits units p us

-- The units that can come next at a position, on all units.
abbrev pub GoesOnWith : List ℕ → Place → List ℕ → Type 0
GoesOnWith units Nowhere us = us ≡ []
GoesOnWith units (Node p) us = NodeUnits units p us
GoesOnWith units (Run p left) us = us ≡ unit_list (slice_get units p)
