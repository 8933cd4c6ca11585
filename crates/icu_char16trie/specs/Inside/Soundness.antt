-- The indices at which there have to be nodes if the units are a trie.
use Rattle.std.specs.Prelude.{◌≡◌, ℕ, ◌<◌, ◌≤◌, Bool, true, false, List, [], ◌∷◌, ⊤, length, slice_set, slice_index_or}
use Rattle.icu_char16trie.specs.Grammar.{Arms, Holds, Matches, Part, IsAscending, UnitsBelow, UnitsFrom}
use Rattle.icu_char16trie.specs.UnitMap.{UnitMap}

-- There is a node at p.
abbrev pub HasMap : List ℕ → ℕ → Type 0
HasMap units p = (m : UnitMap) × Holds units p m

-- There is a match node with these low six bits before p.
abbrev pub HasMatch : List ℕ → ℕ → ℕ → Type 0
HasMatch units p low = (m : UnitMap) × Matches units p low m

-- P holds at each of these indices.
abbrev pub AllHold : (ℕ → Type 0) → List ℕ → Type 0
AllHold P [] = ⊤
AllHold P (q ∷ places) = P q × AllHold P places

-- There is a node at each of these indices.
abbrev pub AllHaveMaps : List ℕ → List ℕ → Type 0
AllHaveMaps units places = AllHold (HasMap units) places

-- The indices are after p and below n.
abbrev pub AllBetween : ℕ → ℕ → List ℕ → Type 0
AllBetween p n [] = ⊤
AllBetween p n (q ∷ places) = (p < q) × (q < n) × AllBetween p n places

-- The indices of the nodes of a branch's entries.
abbrev pub places_of : Arms → List ℕ
places_of [] = []
places_of (a ∷ arms) = a.1 ∷ places_of arms

-- Index q is marked: a node is required there.
abbrev pub IsWanted : List Bool → ℕ → Type 0
IsWanted wanted q = slice_index_or wanted q false ≡ true

-- The root is marked, and nothing else.
abbrev pub IsOneWanted : List Bool → Type 0
IsOneWanted wanted = IsWanted wanted 0 × ((q : ℕ) → IsWanted wanted q → q ≡ 0)

-- The marks with these indices added.
abbrev pub want_all : List ℕ → List Bool → List Bool
want_all [] wanted = wanted
want_all (q ∷ places) wanted = want_all places (slice_set wanted q true)

-- P holds at each marked index from p on.
abbrev pub AllWantedHold : (ℕ → Type 0) → List Bool → ℕ → Type 0
AllWantedHold P wanted p = (q : ℕ) → p ≤ q → IsWanted wanted q → P q

-- There is a node at each marked index from p on.
abbrev pub AllWantedHave : List ℕ → List Bool → ℕ → Type 0
AllWantedHave units wanted p = AllWantedHold (HasMap units) wanted p

-- The part with n entries at p is valid, and its units are at least `from`. `next` is the least
-- number above all of them. The indices of the nodes of its entries are now marked.
pub record PartWalked (units : List ℕ) (p n from next : ℕ) (old new : List Bool) : Type 0 where
  pub arms : Arms
  pub part : Part units p n arms
  pub ascending : IsAscending arms
  pub above : UnitsFrom from arms
  pub below : UnitsBelow next arms
  pub least : (s : ℕ) → UnitsBelow s arms → next ≤ s
  pub some : from < next
  pub ahead : AllBetween p (length units) (places_of arms)
  pub wanted : new ≡ want_all (places_of arms) old

-- There is no such part whose entries have nodes.
abbrev pub IsNoPart : List ℕ → ℕ → ℕ → ℕ → Type 0
IsNoPart units p n from =
    (arms : Arms) → Part units p n arms → IsAscending arms → UnitsFrom from arms
    → AllHaveMaps units (places_of arms) → ⊥

-- What is at p is valid exactly if there are nodes at the indices that it leads to. These are after
-- p and are now marked.
pub record RestsOnWanted (units : List ℕ) (p : ℕ) (Stands : Type 0) (LeadsTo : List ℕ → Type 0)
    (old new : List Bool) : Type 0 where
  pub places : List ℕ
  pub leads : LeadsTo places
  pub ahead : AllBetween p (length units) places
  pub wanted : new ≡ want_all places old
  pub makes : AllHaveMaps units places → Stands
  pub gives : Stands → AllHaveMaps units places
