-- What a walk over the entries of a trie has reached, and what is still to come.
use Rattle.std.specs.Prelude.{◌≡◌, ℕ, ℤ, ◌+◌, pos, List, [], ◌∷◌, ◌++◌, Option, Some, None, Bool, true, false, Result, Ok, Err, String, length, reverse, string_bytes, MatchOption, MatchResult, IfSome, IfOk, IsNone, IsErr}
use Rattle.std.specs.Global.{Global}
use Rattle.icu_zerovec.specs.declared.memory.MemoryError.{MemoryError}
use Rattle.icu_zerovec.specs.Slice.{slice_values}
use Rattle.icu_char16trie.specs.Grammar.{Matches}
use Rattle.icu_char16trie.specs.LossyText.{key_text}
use Rattle.icu_char16trie.specs.UnitMap.{UnitMap, under}
use Rattle.icu_char16trie.specs.UnitPlaces.{Stands}
use Rattle.icu_char16trie.specs.Pending.{Spells, PartsGive, IsNodeValue, weight, parts_work}
use Rattle.icu_char16trie.specs.declared.front.Front.{Front}
use Rattle.icu_char16trie.specs.declared.front.Front.TheVariants.{At, Match}
use Rattle.icu_char16trie.specs.declared.pending.Pending.{Pending}
use Rattle.icu_char16trie.specs.declared.place.Place.TheVariants.{Nowhere, Node, Run}
use Rattle.icu_char16trie.specs.declared.spelling.LeadSurrogate.{LeadSurrogate}
use Rattle.icu_char16trie.specs.declared.walk.Walk.{Walk}

-- What comes next, at a position or a match node, gives the entries m.
abbrev pub FrontGives : List ℕ → Front → UnitMap → Type 0
FrontGives units (At place) m = Stands units place m
FrontGives units (Match p low) m = Matches units p low m

-- The entries m are still to come: those of the front, under the key that is spelled, and then
-- those of the postponed parts.
pub record GivesFrom (s : Pending) (front : Front) (m : UnitMap) : Type 0 where
  pub key : List ℕ
  pub first : UnitMap
  pub others : UnitMap
  pub spelled : Spells (string_bytes s.spelling.text) s.spelling.held key
  pub next : FrontGives (slice_values s.units) front first
  pub parts : PartsGive (slice_values s.units) (string_bytes s.spelling.text)
      (reverse s.parts.items) others
  pub is : m ≡ under key first ++ others

-- The entries m are what a walk has left.
abbrev pub WalkGives : Walk → UnitMap → Type 0
WalkGives s m = GivesFrom s.pending s.front m

-- The text of the current entry's key. A key that ends in a lead surrogate has its own text.
abbrev pub text_by : Option LeadSurrogate → List ℕ → List ℕ → List ℕ
text_by None text ended = text
text_by (Some lead) text ended = ended

-- The text of the current entry's key.
abbrev pub walk_text : Walk → List ℕ
walk_text s =
    text_by s.pending.spelling.held (string_bytes s.pending.spelling.text) (string_bytes s.ended)

-- Nothing is to come, on any units.
abbrev pub IsWalked : Walk → Type 0
IsWalked s = (s.front ≡ At Nowhere) × (s.pending.parts.items ≡ [])

-- The text and the value are those of the first of the entries m, and the others are still to come.
abbrev pub TakesFirst : UnitMap → List ℕ → ℤ → Walk → Type 0
TakesFirst m text v t =
    (key : List ℕ) × (rest : UnitMap) × (m ≡ (key, v) ∷ rest) × (text ≡ key_text key)
    × WalkGives t rest

-- The first of the entries m was reached, and the others are still to come.
abbrev pub Reaches : UnitMap → Walk → Type 0
Reaches m t = TakesFirst m (walk_text t) t.value t

-- The contract of a move among the entries m: true if one was left, which was then reached. An
-- `Err` says nothing about m.
abbrev pub TellsNext : UnitMap → Result Bool MemoryError → Walk → Type 0
TellsNext m (Ok true) t = Reaches m t
TellsNext m (Ok false) t = m ≡ []
TellsNext m (Err e) t = Unit {0}

-- Nothing is to come, and there is no current entry: the text is empty and the value is 0.
pub record IsEnd (s : Walk) : Type 0 where
  pub walked : IsWalked s
  pub text : walk_text s ≡ []
  pub value : s.value ≡ pos 0

-- After any result other than `Ok(true)` the walk is at its end.
abbrev pub AnswersEnd : Result Bool MemoryError → Walk → Type 0
AnswersEnd (Ok true) t = Unit {0}
AnswersEnd (Ok false) t = IsEnd t
AnswersEnd (Err e) t = IsEnd t

-- The value is that of some node of the units.
abbrev pub IsValueOfNode : Walk → Type 0
IsValueOfNode s = IsNodeValue (slice_values s.pending.units) s.value

-- The contract of a move that returns the entry with a text of its own. It returns the first of the
-- entries that were left, or None if none was left. After an `Err` and after None nothing is left.
-- On all units a value is that of a node.
pub record Gives (s : Walk) (r : Option (Result (String Global × ℤ) MemoryError))
    (t : Walk) : Type 0 where
  pub entries : (m : UnitMap) → WalkGives s m
      → MatchOption r (m ≡ [])
      (λ x. MatchResult x (λ y. TakesFirst m (string_bytes y.0) y.1 t) (λ e. Unit {0}))
  pub done : IsWalked s → IsNone r
  pub ended : MatchOption r (IsWalked t) (λ x. IsErr x → IsWalked t)
  pub value : IfSome r (λ x. IfOk x (λ y. IsNodeValue (slice_values s.pending.units) y.1))
  pub units : slice_values t.pending.units ≡ slice_values s.pending.units

-- An upper bound for the work of what comes next.
abbrev pub front_work : ℕ → Front → ℕ
front_work len (At Nowhere) = 0
front_work len (At (Node p)) = weight len p
front_work len (At (Run p left)) = weight len p
front_work len (Match p low) = weight len p

-- An upper bound for the work of a front and of the postponed parts.
abbrev pub work_from : Pending → Front → ℕ
work_from s front =
    front_work (length (slice_values s.units)) front
    + parts_work (length (slice_values s.units)) s.parts.items

-- An upper bound for the work that is left.
abbrev pub walk_work : Walk → ℕ
walk_work s = work_from s.pending s.front
