-- What the steps of a walk over the entries of a trie do.
use Rattle.std.specs.Prelude.{◌≡◌, ℕ, ℤ, ◌+◌, ◌^◌, ◌%◌, ◌<◌, ◌≤◌, ◌⊎◌, List, [], ◌∷◌, Option, None, Bool, true, false, nat_le, if◌then◌else◌, Some, IfSome, MatchOption}
use Rattle.std.proofs.Props.{props}
use Rattle.std.specs.Coded.{×_prop, Unit-prop}
use Rattle.icu_zerovec.specs.Slice.{slice_values}
use Rattle.icu_char16trie.specs.Constants.{min_value_lead, value_is_final}
use Rattle.icu_char16trie.specs.LossyText.{key_text}
use Rattle.icu_char16trie.specs.Numbers.{node_end}
use Rattle.icu_char16trie.specs.UnitMap.{UnitMap}
use Rattle.icu_char16trie.specs.UnitPlaces.{IsNear}
use Rattle.icu_char16trie.specs.Pending.{Spells, IsPending, IsOver, IsNodeValue, work_left}
use Rattle.icu_char16trie.specs.Inside.Cuts.{IsCut, IsCut-prop}
use Rattle.icu_char16trie.specs.Inside.Opening.{bytes_of, IsFrom, IsPast}
use Rattle.icu_char16trie.specs.Walk.{GivesFrom, WalkGives, IsWalked, IsValueOfNode, Reaches, walk_text, walk_work, work_from}
use Rattle.icu_char16trie.specs.declared.front.Front.{Front}
use Rattle.icu_char16trie.specs.declared.front.Front.TheVariants.{At, Match}
use Rattle.icu_char16trie.specs.declared.pending.Pending.{Pending}
use Rattle.icu_char16trie.specs.declared.place.Place.{Place}
use Rattle.icu_char16trie.specs.declared.place.Place.TheVariants.{Nowhere, Node, Run}
use Rattle.icu_char16trie.specs.declared.walk.Walk.{Walk}

-- Adding to the index of this front never wraps.
abbrev pub IsNearFront : Front → Type 0
IsNearFront (At place) = IsNear place
IsNearFront (Match p low) = (p < 2 ^ 63) × (low < min_value_lead)

-- The text of the key may be cut at the marks, and adding to an index never wraps.
abbrev pub IsSound : Walk → Type 0
IsSound s = IsCut s.pending × IsNearFront s.front

-- What comes after the value of a node whose lead unit is before p.
abbrev pub below : ℕ → ℕ → Front
below p lead =
    if nat_le value_is_final lead then At Nowhere
    else Match (node_end p lead) (lead % min_value_lead)

-- The entry of a node's own value.
abbrev pub own : Option ℤ → UnitMap
own None = []
own (Some v) = ([], v) ∷ []

-- k nodes of a trie were read and had no value. What comes next is a match node at index k or
-- later. If the lead unit of the first node is missing, nothing comes next (k = 1).
abbrev pub IsPastFront : ℕ → Front → Type 0
IsPastFront k (At place) = (k ≡ 1) × (place ≡ Nowhere)
IsPastFront k (Match p low) = k ≤ p

-- What comes next is opened: what was still to come is pending.
pub record OpensFront (old : Pending) (front : Front) (new : Pending) : Type 0 where
  pub units : new.units ≡ old.units
  pub entries : (m : UnitMap) → GivesFrom old front m → IsPending new m
  pub cuts : IsCut old → IsCut new
  pub leads : (m : UnitMap) → GivesFrom old front m → (k : ℕ) → IsPastFront k front → IsPast k new
  pub work : work_left new ≤ work_from old front
  pub over : front ≡ At Nowhere → old.parts.items ≡ [] → IsOver new

-- If a node has a value, it is that of the first of the entries m. If it has none, all of them are
-- still to come.
abbrev pub TellsNode : UnitMap → Option ℤ → Front → Pending → Type 0
TellsNode m None front t = GivesFrom t front m
TellsNode m (Some v) front t =
    (key : List ℕ) × (rest : UnitMap) × (m ≡ (key, v) ∷ rest)
    × Spells (bytes_of t.spelling) t.spelling.held key
    × GivesFrom t front rest

-- The node is read: what was pending is still to come.
pub record ReadsNode (old : Pending) (front : Front) (value : Option ℤ) (new : Pending)
    : Type 0 where
  pub units : new.units ≡ old.units
  pub entries : (m : UnitMap) → IsPending old m → TellsNode m value front new
  pub some_value : IfSome value (IsNodeValue (slice_values old.units))
  pub leads : value ≡ None → (k : ℕ) → (k ≡ 0) ⊎ IsFrom k old → IsPastFront (k + 1) front
  pub cuts : IsCut old → IsCut new
  pub near : IsNearFront front
  pub work : MatchOption value (work_from new front ≤ work_left old)
      (λ v. work_from new front < work_left old)

-- What a walk had left is pending.
pub record IsOpened (old : Walk) (new : Pending) : Type 0 where
  pub units : new.units ≡ old.pending.units
  pub entries : (m : UnitMap) → WalkGives old m → IsPending new m
  pub cuts : IsCut new
  pub work : work_left new ≤ walk_work old
  pub over : IsWalked old → IsOver new

-- The text of the key is complete.
pub record EndsKey (old new : Walk) : Type 0 where
  pub pending : new.pending ≡ old.pending
  pub front : new.front ≡ old.front
  pub value : new.value ≡ old.value
  pub text : (key : List ℕ)
      → Spells (bytes_of old.pending.spelling) old.pending.spelling.held key
      → walk_text new ≡ key_text key

-- The next entry was reached, or there is none.
abbrev pub TellsEntry : UnitMap → Bool → Walk → Type 0
TellsEntry m true t = Reaches m t
TellsEntry m false t = m ≡ []

-- The next entry was searched: it was reached, or there is none.
pub record FindsEntry (old : Walk) (found : Bool) (new : Walk) : Type 0 where
  pub units : new.pending.units ≡ old.pending.units
  pub entries : (m : UnitMap) → WalkGives old m → TellsEntry m found new
  pub value : found ≡ true → IsValueOfNode new
  pub sound : found ≡ true → IsSound new
  pub work : found ≡ true → walk_work new < walk_work old

-- IsNear and IsSound are propositions, which a ghost field requires.
IsNear-prop : (place : Place) → IsProp (IsNear place)
IsNear-prop Nowhere = Unit-prop
IsNear-prop (Node p) = hlevel props
IsNear-prop (Run p left) = hlevel props

IsNearFront-prop : (front : Front) → IsProp (IsNearFront front)
IsNearFront-prop (At place) = IsNear-prop place
IsNearFront-prop (Match p low) = ×_prop (hlevel props) (hlevel props)

-- IsSound is a proposition.
pub IsSound-prop : (s : Walk) → IsProp (IsSound s)
IsSound-prop s = ×_prop (IsCut-prop s.pending) (IsNearFront-prop s.front)
