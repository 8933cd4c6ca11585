-- Entries below a node: each without the units of its key on the way to the node.
use Rattle.std.specs.Prelude.{Option, None, ◌^◌, ◌≡◌, ℕ, ◌+◌, ◌-◌, ◌*◌, ◌<◌, ◌≤◌, List, [], ◌∷◌, ◌++◌, length, drop, take, Some, slice_get}
use Rattle.icu_char16trie.specs.UnitMap.{UnitMap, under, IsAscendingKeys}
use Rattle.icu_char16trie_builder.specs.Inside.Written.{Below, Ascends}
use Rattle.icu_char16trie_builder.specs.declared.entry.Entry.{Entry}
use Rattle.icu_char16trie_builder.specs.declared.entry.Arm.{Arm}

-- The entries without the first d units of their keys.
abbrev pub cut : ℕ → List Entry → UnitMap
cut d [] = []
cut d (e ∷ es) = (drop d e.key.now, e.value) ∷ cut d es

-- The largest number of units in a trie of the entries below d: two for each unit left, and sixteen
-- for each entry.
abbrev pub room : ℕ → List Entry → ℕ
room d [] = 0
room d (e ∷ es) = 2 * (length e.key.now - d) + 16 + room d es

-- Each key has more than d units.
abbrev pub AllLonger : ℕ → List Entry → Type 0
AllLonger d [] = Unit {0}
AllLonger d (e ∷ es) = (d < length e.key.now) × AllLonger d es

-- Entries from which a node can be made: there are some, and their keys ascend after their first d
-- units.
abbrev pub IsBelow : ℕ → List Entry → Type 0
IsBelow d es = (0 < length es) × IsAscendingKeys (cut d es)

-- ---- arms: the entries of a branch, grouped by their unit

-- The units of the arms.
abbrev pub arm_units : List Arm → List ℕ
arm_units [] = []
arm_units (a ∷ arms) = a.unit ∷ arm_units arms

-- The map of the arms. The first d units of their keys, the arm's unit included, have been passed.
abbrev pub arm_map : ℕ → List Arm → UnitMap
arm_map d [] = []
arm_map d (a ∷ arms) = under (a.unit ∷ []) (cut d a.entries.now) ++ arm_map d arms

-- The largest number of units in a trie of the entries of the arms.
abbrev pub arm_room : ℕ → List Arm → ℕ
arm_room d [] = 0
arm_room d (a ∷ arms) = room d a.entries.now + arm_room d arms

-- A node can be made from the entries of each arm.
abbrev pub AreBelow : ℕ → List Arm → Type 0
AreBelow d [] = Unit {0}
AreBelow d (a ∷ arms) = IsBelow d a.entries.now × AreBelow d arms

-- ---- units that keys share

-- The k units from d on of each key are the first k units of the list.
abbrev pub AllShare : ℕ → ℕ → List ℕ → List Entry → Type 0
AllShare d k first [] = Unit {0}
AllShare d k first (e ∷ es) = (take k (drop d e.key.now) ≡ take k first) × AllShare d k first es

-- Each key has the unit u at d.
abbrev pub IsGroup : ℕ → ℕ → List Entry → Type 0
IsGroup d u [] = Unit {0}
IsGroup d u (e ∷ es) = (slice_get e.key.now d ≡ Some u) × IsGroup d u es

-- The key is not empty, and its first unit is at least s.
abbrev pub BeginsFrom : ℕ → List ℕ → Type 0
BeginsFrom s [] = ⊥
BeginsFrom s (x ∷ key) = s ≤ x

-- Each key is not empty, and its first unit is at least s.
abbrev pub AllBeginFrom : ℕ → UnitMap → Type 0
AllBeginFrom s [] = Unit {0}
AllBeginFrom s (e ∷ m) = BeginsFrom s e.0 × AllBeginFrom s m

-- The unit at d of the first key.
abbrev pub unit_of : List Entry → ℕ → Option ℕ
unit_of [] d = None
unit_of (e ∷ es) d = slice_get e.key.now d

-- The arms of all entries except the others, which are left.
pub record ArmsSoFar (d : ℕ) (all others : List Entry) (arms : List Arm) : Type 0 where
  pub map : arm_map (d + 1) arms ++ cut d others ≡ cut d all
  pub below : AreBelow (d + 1) arms
  pub room : arm_room (d + 1) arms + 2 * length arms + room d others ≤ room d all
  pub longer : AllLonger d others
  pub ascends : IsAscendingKeys (cut d others)
  pub up : Ascends (arm_units arms)
  pub s : ℕ
  pub before : Below s (arm_units arms)
  pub behind : AllBeginFrom s (cut d others)
  pub count : length arms ≤ s
  pub few : s ≤ 2 ^ 16

-- There are arms, their units ascend, and nodes can be made from their entries.
pub record IsPart (d : ℕ) (arms : List Arm) : Type 0 where
  pub some : 0 < length arms
  pub below : AreBelow d arms
  pub ascends : Ascends (arm_units arms)
