-- What the steps from one node to the next do.
use Rattle.std.specs.Prelude.{◌≡◌, ℕ, ◌+◌, ◌<◌, ◌≤◌, ◌⊎◌, List, [], ◌∷◌, ◌++◌, Some, None, length, reverse, string_bytes}
use Rattle.icu_zerovec.specs.Slice.{slice_values}
use Rattle.icu_char16trie.specs.UnitMap.{UnitMap, under}
use Rattle.icu_char16trie.specs.LossyText.{key_text}
use Rattle.icu_char16trie.specs.Pending.{held_units, Spells, PartsGive, IsPending, weight, work_left}
use Rattle.icu_char16trie.specs.Inside.Cuts.{IsCut}
use Rattle.icu_char16trie.specs.declared.pending.BranchPart.{BranchPart}
use Rattle.icu_char16trie.specs.declared.pending.Pending.{Pending}
use Rattle.icu_char16trie.specs.declared.spelling.Spelling.{Spelling}

-- The bytes of a spelling's text.
abbrev pub bytes_of : Spelling → List ℕ
bytes_of s = string_bytes s.text

-- More units are spelled: whatever comes after them, the whole text is the same before and after.
-- The text only grows.
pub record SpellsOn (old : Spelling) (run : List ℕ) (new : Spelling) : Type 0 where
  pub next : (more : List ℕ) → bytes_of old ++ key_text (held_units old.held ++ (run ++ more))
      ≡ bytes_of new ++ key_text (held_units new.held ++ more)
  pub tail : List ℕ
  pub grows : bytes_of new ≡ bytes_of old ++ tail

-- A part with n entries at p is postponed, under the key so far.
pub record PutsOff (old : Pending) (p n : ℕ) (new : Pending) : Type 0 where
  pub units : new.units ≡ old.units
  pub spelling : new.spelling ≡ old.spelling
  pub node : new.node ≡ old.node
  pub part : BranchPart
  pub parts : new.parts.items ≡ old.parts.items ++ part ∷ []
  pub place : part.place ≡ p
  pub count : part.count ≡ n
  pub len : part.mark.len ≡ length (bytes_of old.spelling)
  pub held : part.mark.held ≡ old.spelling.held

-- There is a node, at index k or later, and within the units.
abbrev pub IsFrom : ℕ → Pending → Type 0
IsFrom k s = (p : ℕ) × (s.node ≡ Some p) × (k ≤ p) × (p < length (slice_values s.units))

-- k nodes of a trie were opened and had no item. Each led to a later one, so the next node is at
-- index k or later. Before the first node (k = 0) it may be anywhere. If the lead unit of the first
-- node is missing, there is no node after it (k = 1), and a part is next.
abbrev pub IsPast : ℕ → Pending → Type 0
IsPast k s = (k ≡ 0) ⊎ (((k ≡ 1) × (s.node ≡ None)) ⊎ IsFrom k s)

-- A node or part that represents some entries is opened, under the key so far. Then these entries
-- are pending, before those of the postponed parts. This leaves less work than a node at p.
pub record Opens (old : Pending) (p : ℕ) (Stood : UnitMap → Type 0) (new : Pending) : Type 0 where
  pub units : new.units ≡ old.units
  pub entries : (key : List ℕ) (first others : UnitMap) → Stood first
      → Spells (bytes_of old.spelling) old.spelling.held key
      → PartsGive (slice_values old.units) (bytes_of old.spelling) (reverse old.parts.items) others
      → IsPending new (under key first ++ others)
  pub leads : (first : UnitMap) → Stood first → IsFrom (p + 1) new
  pub cuts : IsCut old → IsCut new
  pub work : work_left new < weight (length (slice_values old.units)) p + work_left old

-- What was pending is still pending.
pub record Keeps (old new : Pending) : Type 0 where
  pub units : new.units ≡ old.units
  pub entries : (m : UnitMap) → IsPending old m → IsPending new m
  pub cuts : IsCut new
  pub work : work_left new ≤ work_left old

-- If k nodes of a trie were opened, there is a node now, at index k or later.
abbrev pub GoesToNode : Pending → Pending → Type 0
GoesToNode old new =
    (m : UnitMap) → IsPending old m → (k : ℕ) → IsPast k old → (k ≡ 0) ⊎ IsFrom k new
