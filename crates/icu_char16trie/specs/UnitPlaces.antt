-- The positions of a cursor in the units of a trie, and the entries ahead of them.
use Rattle.std.specs.Prelude.{◌≡◌, ℕ, ℤ, ◌+◌, ◌-◌, ◌^◌, ◌<◌, ◌≤◌, ◌⊎◌, Bool, true, false, nat_lt, nat_le, List, [], Option, Some, None, slice_get, take, drop, length, if◌then◌else◌, option_and_then, unwrap_or}
use Rattle.std.specs.Int.{cast_signed, w32}
use Rattle.icu_char16trie.specs.Constants.{min_value_lead, value_is_final}
use Rattle.icu_char16trie.specs.Numbers.{short_number, node_number}
use Rattle.icu_char16trie.specs.Grammar.{Holds}
use Rattle.icu_char16trie.specs.UnitMap.{UnitMap, after_all, under}
use Rattle.icu_char16trie.specs.declared.place.Place.{Place}
use Rattle.icu_char16trie.specs.declared.place.Place.TheVariants.{Nowhere, Node, Run}

-- `left` units of a linear match are left at p, and after them there is a node. The keys of m are
-- these units followed by a key of the node.
pub record InRun (units : List ℕ) (p left : ℕ) (m : UnitMap) : Type 0 where
  pub rest : UnitMap
  pub within : p + left ≤ length units
  pub node : Holds units (p + left) rest
  pub keys : m ≡ under (take left (drop p units)) rest

-- The keys of m are what can be passed from the position on. If nothing matched, there are none. At
-- a node they are its keys, or none if its lead unit is missing. In a linear match they start with
-- the rest of it.
abbrev pub Stands : List ℕ → Place → UnitMap → Type 0
Stands units Nowhere m = m ≡ []
Stands units (Node p) m = Holds units p m ⊎ ((slice_get units p ≡ None) × (m ≡ []))
Stands units (Run p left) m = InRun units p (left + 1) m

-- Adding to the index of this position never wraps.
abbrev pub IsNear : Place → Type 0
IsNear Nowhere = Unit {0}
IsNear (Node p) = p < 2 ^ 63
IsNear (Run p left) = p < 2 ^ 63

-- The value of the node whose lead unit is before p, if it has one. It is 0 if some units of the
-- value are missing.
abbrev pub value_by : List ℕ → ℕ → ℕ → Option ℤ
value_by units p lead =
    if nat_lt lead min_value_lead then None
    else if nat_lt lead value_is_final
    then Some (cast_signed w32 (unwrap_or (node_number units p lead) 0))
    else Some (cast_signed w32 (unwrap_or (short_number units p (lead - value_is_final)) 0))

-- The value at a position, on all units.
abbrev pub value_at : List ℕ → Place → Option ℤ
value_at units Nowhere = None
value_at units (Node p) = option_and_then (value_by units (p + 1)) (slice_get units p)
value_at units (Run p left) = None

-- The lead unit is missing, or it is that of a final value.
abbrev pub ends_by : Option ℕ → Bool
ends_by None = true
ends_by (Some lead) = nat_le value_is_final lead

-- No unit can be passed at the position, on all units.
abbrev pub is_empty_at : List ℕ → Place → Bool
is_empty_at units Nowhere = true
is_empty_at units (Node p) = ends_by (slice_get units p)
is_empty_at units (Run p left) = false

-- A cursor: the units, and its position in them.
pub record At : Type 0 where
  pub units : List ℕ
  pub place : Place

-- The cursor has passed the units w from the root of a trie of m: the entries ahead of it are those
-- whose keys start with w, each without w.
abbrev pub HasPassed : At → UnitMap → List ℕ → Type 0
HasPassed cursor m w = Stands cursor.units cursor.place (after_all w m)
