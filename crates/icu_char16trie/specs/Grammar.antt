-- Which map the node at an index of a list of units represents: the format of ICU's UCharsTrie.
--
-- A node starts with its lead unit. If bit 15 of the lead is set, the node is a final value.
-- Otherwise the low six bits of the lead describe a match node: 0x30..=0x3f is a linear match of 1
-- to 16 units, 0x00..=0x2f a branch. If bits 6 to 14 of the lead are not 0, they hold an
-- intermediate value, which comes before the match node.
use Rattle.std.specs.Prelude.{◌≡◌, ℕ, ◌+◌, ◌-◌, ◌/◌, ◌%◌, ◌<◌, ◌≤◌, ◌==◌, List, [], ◌∷◌, ◌++◌, Option, Some, slice_get, if◌then◌else◌, take, drop, length}
use Rattle.std.specs.Int.{cast_signed, w32}
use Rattle.icu_char16trie.specs.Constants.{max_branch_linear_sub_node_length, min_linear_match, min_value_lead, run_len, value_is_final}
use Rattle.icu_char16trie.specs.UnitMap.{UnitMap, under}
use Rattle.icu_char16trie.specs.Numbers.{short_number, short_end, node_number, node_end, delta_end, entry_child, lower_part}

-- The entries of a branch in their order: the unit of each, and the index of its node.
abbrev pub Arms : Type 0
Arms = List (ℕ × ℕ)

-- Each unit is below s.
abbrev pub UnitsBelow : ℕ → Arms → Type 0
UnitsBelow s [] = Unit {0}
UnitsBelow s (a ∷ arms) = (a.0 < s) × UnitsBelow s arms

-- No unit is below s.
abbrev pub UnitsFrom : ℕ → Arms → Type 0
UnitsFrom s [] = Unit {0}
UnitsFrom s (a ∷ arms) = (s ≤ a.0) × UnitsFrom s arms

-- The units strictly ascend.
abbrev pub IsAscending : Arms → Type 0
IsAscending [] = Unit {0}
IsAscending (a ∷ arms) = UnitsFrom (a.0 + 1) arms × IsAscending arms

-- The part of a branch at index p that has n entries has these arms.
--
-- A part with at most five entries is a row. Its last entry is a unit, directly followed by the
-- entry's node. Any other entry of it is a unit and a value unit, which is the final value itself
-- or a jump to the entry's node. A part with more than five entries is a split unit, a delta and
-- the part with the upper entries; the delta leads to the part with the lower n / 2 entries. The
-- split unit is above each unit of the lower part and not above any unit of the upper part. Since
-- units ascend, it is enough that it is at most the first unit of the upper part.
pub data Part (units : List ℕ) : ℕ → ℕ → Arms → Type 0 where
  last : (p n u : ℕ) (arms : Arms) → n ≡ 1 → slice_get units p ≡ Some u → arms ≡ (u, p + 1) ∷ []
      → Part units p n arms
  entry : (p n u v child : ℕ) (rest arms : Arms) → 1 < n → n ≤ max_branch_linear_sub_node_length
      → slice_get units p ≡ Some u
      → slice_get units (p + 1) ≡ Some v
      → entry_child units (p + 2) v ≡ Some child
      → Part units (short_end (p + 2) (v % value_is_final)) (n - 1) rest
      → arms ≡ (u, child) ∷ rest → Part units p n arms
  split : (p n s d low : ℕ) (lower upper arms : Arms) → max_branch_linear_sub_node_length < n
      → slice_get units p ≡ Some s
      → slice_get units (p + 1) ≡ Some d
      → lower_part units (p + 2) d ≡ Some low → Part units low (n / 2) lower
      → Part units (delta_end (p + 2) d) (n - n / 2) upper
      → UnitsBelow s lower → UnitsFrom s upper → arms ≡ lower ++ upper → Part units p n arms

-- The number of entries of a branch, minus one: the low six bits, or if these are 0 the unit at p.
-- p is the index after the lead and its value.
abbrev pub branch_len : List ℕ → ℕ → ℕ → Option ℕ
branch_len units p low = if low == 0 then slice_get units p else Some low

-- The index of the part with all entries of a branch.
abbrev pub branch_start : ℕ → ℕ → ℕ
branch_start p low = if low == 0 then p + 1 else p

mutual
  -- The node at p represents m: a final value, a match node, or an intermediate value and a match
  -- node.
  pub data Holds (units : List ℕ) : ℕ → UnitMap → Type 0 where
    final : (p lead n : ℕ) (m : UnitMap) → slice_get units p ≡ Some lead → value_is_final ≤ lead
        → short_number units (p + 1) (lead - value_is_final) ≡ Some n
        → m ≡ ([], cast_signed w32 n) ∷ [] → Holds units p m
    plain : (p lead : ℕ) (m : UnitMap) → slice_get units p ≡ Some lead → lead < min_value_lead
        → Matches units (p + 1) lead m → Holds units p m
    valued : (p lead n : ℕ) (m rest : UnitMap) → slice_get units p ≡ Some lead
        → min_value_lead ≤ lead → lead < value_is_final
        → node_number units (p + 1) lead ≡ Some n
        → Matches units (node_end (p + 1) lead) (lead % min_value_lead) rest
        → m ≡ ([], cast_signed w32 n) ∷ rest → Holds units p m

  -- The match node with these low six bits represents m. p is the index after the lead and its
  -- value.
  pub data Matches (units : List ℕ) : ℕ → ℕ → UnitMap → Type 0 where
    run : (p low : ℕ) (m rest : UnitMap) → min_linear_match ≤ low → low < min_value_lead
        → p + run_len low ≤ length units
        → Holds units (p + run_len low) rest → m ≡ under (take (run_len low) (drop p units)) rest
        → Matches units p low m
    branch : (p low n : ℕ) (arms : Arms) (m : UnitMap) → low < min_linear_match
        → branch_len units p low ≡ Some n → 1 ≤ n
        → Part units (branch_start p low) (n + 1) arms → IsAscending arms → Children units arms m
        → Matches units p low m

  -- The nodes of the arms, each under its unit, represent m.
  pub data Children (units : List ℕ) : Arms → UnitMap → Type 0 where
    none : (arms : Arms) (m : UnitMap) → arms ≡ [] → m ≡ [] → Children units arms m
    more : (u q : ℕ) (rest arms : Arms) (m others all : UnitMap) → arms ≡ (u, q) ∷ rest
        → Holds units q m
        → Children units rest others → all ≡ under (u ∷ []) m ++ others → Children units arms all

-- The units are a trie of the map m: the node at index 0 represents m. An empty list of units is
-- the trie of the empty map.
pub data IsTrieOf (units : List ℕ) (m : UnitMap) : Type 0 where
  node : Holds units 0 m → IsTrieOf units m
  empty : units ≡ [] → m ≡ [] → IsTrieOf units m
