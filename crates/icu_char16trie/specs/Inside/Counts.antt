-- The number of entries of the nodes of a trie, counted from the last node to the root.
use Rattle.std.specs.Prelude.{◌≡◌, ℕ, ◌+◌, ◌%◌, ◌<◌, ◌≤◌, Bool, List, [], ◌∷◌, Some, ⊤, length, min, slice_get, slice_index}
use Rattle.icu_char16trie.specs.Constants.{min_linear_match, min_value_lead, run_len, value_is_final}
use Rattle.icu_char16trie.specs.Numbers.{node_end}
use Rattle.icu_char16trie.specs.Grammar.{Arms, Holds, Part, branch_len, branch_start}
use Rattle.icu_char16trie.specs.UnitMap.{UnitMap}
use Rattle.icu_char16trie.specs.Inside.Soundness.{AllBetween, IsWanted, places_of}

-- A number as a saturated 64-bit count.
abbrev pub capped : ℕ → ℕ
capped n = min n 0xFFFF_FFFF_FFFF_FFFF

-- The sum of the counts at these indices.
abbrev pub sum_at : List ℕ → List ℕ → ℕ
sum_at counts [] = 0
sum_at counts (q ∷ places) = slice_index counts q + sum_at counts places

-- The match node with these low six bits leads to the nodes at these indices.
pub data MatchKids (units : List ℕ) : ℕ → ℕ → List ℕ → Type 0 where
  after_run : (p low : ℕ) (kids : List ℕ) → min_linear_match ≤ low → kids ≡ (p + run_len low) ∷ []
      → MatchKids units p low kids
  of_arms : (p low n : ℕ) (arms : Arms) (kids : List ℕ) → low < min_linear_match
      → branch_len units p low ≡ Some n
      → Part units (branch_start p low) (n + 1) arms → kids ≡ places_of arms
      → MatchKids units p low kids

-- The node at p has `own` values of its own, 0 or 1, and leads to the nodes at these indices.
pub data NodeKids (units : List ℕ) : ℕ → ℕ → List ℕ → Type 0 where
  no_kids : (p lead own : ℕ) (kids : List ℕ) → slice_get units p ≡ Some lead
      → value_is_final ≤ lead → own ≡ 1 → kids ≡ [] → NodeKids units p own kids
  of_plain : (p lead own : ℕ) (kids : List ℕ) → slice_get units p ≡ Some lead
      → lead < min_value_lead → own ≡ 0 → MatchKids units (p + 1) lead kids
      → NodeKids units p own kids
  of_valued : (p lead own : ℕ) (kids : List ℕ) → slice_get units p ≡ Some lead
      → min_value_lead ≤ lead → lead < value_is_final → own ≡ 1
      → MatchKids units (node_end (p + 1) lead) (lead % min_value_lead) kids
      → NodeKids units p own kids

-- The node at p leads to the nodes at these indices.
abbrev pub NodeLeadsTo : List ℕ → ℕ → List ℕ → Type 0
NodeLeadsTo units p kids = (own : ℕ) × NodeKids units p own kids

-- The count at q is the number of entries of the node at q.
abbrev pub IsCounted : List ℕ → List ℕ → ℕ → Type 0
IsCounted units counts q =
    (m : UnitMap) → Holds units q m → slice_index counts q ≡ capped (length m)

-- IsCounted holds at each of these indices.
abbrev pub AllCounted : List ℕ → List ℕ → List ℕ → Type 0
AllCounted units counts [] = ⊤
AllCounted units counts (q ∷ places) = IsCounted units counts q × AllCounted units counts places

-- Each of these indices is marked.
abbrev pub AllWanted : List Bool → List ℕ → Type 0
AllWanted wanted [] = ⊤
AllWanted wanted (q ∷ places) = IsWanted wanted q × AllWanted wanted places

-- There is a node at q, and all nodes that it leads to are after q and marked.
pub record LeadsToWanted (units : List ℕ) (wanted : List Bool) (q : ℕ) : Type 0 where
  pub own : ℕ
  pub kids : List ℕ
  pub node : NodeKids units q own kids
  pub ahead : AllBetween q (length units) kids
  pub all : AllWanted wanted kids

-- LeadsToWanted holds at each marked index below p.
abbrev pub IsClosed : List ℕ → List Bool → ℕ → Type 0
IsClosed units wanted p = (q : ℕ) → q < p → IsWanted wanted q → LeadsToWanted units wanted q
