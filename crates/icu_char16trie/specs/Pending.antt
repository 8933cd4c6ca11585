-- What a walk over a trie has left: the entries of the current node, and then those of the
-- postponed parts of branches.
use Rattle.std.specs.Prelude.{◌≡◌, ℕ, ℤ, ◌+◌, ◌-◌, ◌^◌, ◌≤◌, List, [], ◌∷◌, ◌++◌, Option, Some, None, length, reverse, string_bytes, sum_by, take}
use Rattle.icu_zerovec.specs.Slice.{slice_values}
use Rattle.icu_char16trie.specs.Grammar.{Arms, Part, Children}
use Rattle.icu_char16trie.specs.LossyText.{key_text}
use Rattle.icu_char16trie.specs.UnitMap.{UnitMap, under}
use Rattle.icu_char16trie.specs.UnitPlaces.{Stands, value_at}
use Rattle.icu_char16trie.specs.declared.pending.BranchPart.{BranchPart}
use Rattle.icu_char16trie.specs.declared.pending.Pending.{Pending}
use Rattle.icu_char16trie.specs.declared.place.Place.TheVariants.{Node}
use Rattle.icu_char16trie.specs.declared.spelling.LeadSurrogate.{LeadSurrogate}

-- The unit that is held, if there is one.
abbrev pub held_units : Option LeadSurrogate → List ℕ
held_units None = []
held_units (Some lead) = lead.unit ∷ []

-- The text and the held unit spell the key: whatever units come after the key, the text of all is
-- this text and then the text of the held unit and what comes after it.
pub record Spells (text : List ℕ) (held : Option LeadSurrogate) (key : List ℕ) : Type 0 where
  pub whole : (more : List ℕ) → key_text (key ++ more) ≡ text ++ key_text (held_units held ++ more)

-- The entries of the part of a branch with n entries at p are those of m.
abbrev pub ArmsHold : List ℕ → ℕ → ℕ → UnitMap → Type 0
ArmsHold units p n m = (arms : Arms) × Part units p n arms × Children units arms m

-- The postponed parts, the next one first, give the entries m. Each part is under the key that is
-- left when the text is cut back to its mark.
abbrev pub PartsGive : List ℕ → List ℕ → List BranchPart → UnitMap → Type 0
PartsGive units text [] m = m ≡ []
PartsGive units text (part ∷ parts) m =
    (key : List ℕ) × (first : UnitMap) × (others : UnitMap)
    × ArmsHold units part.place part.count first
    × Spells (take part.mark.len text) part.mark.held key × (part.mark.len ≤ length text)
    × (m ≡ under key first ++ others) × PartsGive units (take part.mark.len text) parts others

-- The node, if there is one, gives the entries m, under the key.
abbrev pub NodeGives : List ℕ → Option ℕ → List ℕ → UnitMap → Type 0
NodeGives units None key m = m ≡ []
NodeGives units (Some p) key m =
    (entries : UnitMap) × Stands units (Node p) entries × (m ≡ under key entries)

-- The entries m are still to come.
pub record IsPending (s : Pending) (m : UnitMap) : Type 0 where
  pub key : List ℕ
  pub first : UnitMap
  pub others : UnitMap
  pub spelled : Spells (string_bytes s.spelling.text) s.spelling.held key
  pub node : NodeGives (slice_values s.units) s.node key first
  pub parts : PartsGive (slice_values s.units) (string_bytes s.spelling.text)
      (reverse s.parts.items) others
  pub is : m ≡ first ++ others

-- Nothing is to come, on any units.
abbrev pub IsOver : Pending → Type 0
IsOver s = (s.node ≡ None) × (s.parts.items ≡ [])

-- The value of some node of the units. It is 0 if some units of the value are missing.
abbrev pub IsNodeValue : List ℕ → ℤ → Type 0
IsNodeValue units v = (p : ℕ) × (value_at units (Node p) ≡ Some v)

-- The weight of an index in a bound for the work that is left. It is more than twice the weight of
-- any later index, because what is opened leads to at most two others, both at later indices.
unfoldable pub weight : ℕ → ℕ → ℕ
weight len p = 3 ^ (len + 1 - p)

-- An upper bound for the work of a node.
abbrev pub node_work : ℕ → Option ℕ → ℕ
node_work len None = 0
node_work len (Some p) = weight len p

-- An upper bound for the work of parts.
unfoldable pub parts_work : ℕ → List BranchPart → ℕ
parts_work len parts = sum_by (λ part. weight len part.place) parts

-- An upper bound for the work that is left.
abbrev pub work_left : Pending → ℕ
work_left s =
    node_work (length (slice_values s.units)) s.node
    + parts_work (length (slice_values s.units)) s.parts.items
