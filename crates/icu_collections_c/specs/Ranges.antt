-- The ranges of a trie as C sees them.
use Rattle.std.specs.Prelude.{◌≡◌, ℕ, ◌+◌, ◌<◌, ◌≤◌, ◌↔◌, true, false, List, [], ◌∷◌, Option, Some, None, MatchOption, length, map, All}
use Rattle.icu_invlist.specs.InversionList.{holds}
use Rattle.icu_trie_core.specs.Contents.{contents_of}
use Rattle.icu_trie_core.specs.declared.range.CodePointMapRange.{CodePointMapRange}
use Rattle.icu_trie_core.specs.Range.{GivesWalk, first_of, last_of}
use Rattle.icu_trie_core.specs.Runs.{LongestRun}
use Rattle.icu_trie.specs.Parts.{Parts}
use Rattle.icu_trie.specs.Ranges.{AreRangesFrom, IsCoherentTrie, IsInRangeOf, answers}
use Rattle.icu_zerovec.specs.Buffers.{written}
use Rattle.icu_collections_c.specs.declared.ranges.Range.{Range}

-- The range of a walk, with its value as a number. If there is none, all fields are 0 and `found`
-- is false.
abbrev pub range_of : {A : Type 0} → (A → ℕ) → Option (CodePointMapRange A) → Range
range_of number (Some r) =
    record { first = first_of r; last = last_of r; value = number r.value; found = true }
range_of number None = record { first = 0; last = 0; value = 0; found = false }

-- The range that is returned for c. In any trie it is the range of a walk. In a coherent trie it is
-- the longest run of equal values, and every code point has one.
pub record GivesRange {A : Type 0} (of_number : ℕ → Option A) (number : A → ℕ) (t : Parts A) (c : ℕ)
    (given : Range) : Type 0 where
  pub walk : Option (CodePointMapRange A)
  pub gives : GivesWalk of_number t.header (contents_of t.index t.values) c walk
  pub longest : IsCoherentTrie of_number t → MatchOption walk (0x110000 ≤ c)
      (λ r. LongestRun (answers t) c (last_of r) (Some r.value))
  pub range : given ≡ range_of number walk

-- Consecutive ranges from c on, each the range of a walk. `next` is the code point after the last
-- of them.
abbrev pub AreRangesTo : {A : Type 0} → (ℕ → Option A) → Parts A → ℕ → List (CodePointMapRange A)
    → ℕ → Type 0
AreRangesTo of_number t c [] next = c ≡ next
AreRangesTo of_number t c (r ∷ rs) next =
    GivesWalk of_number t.header (contents_of t.index t.values) c (Some r)
    × AreRangesTo of_number t (last_of r + 1) rs next

-- Many ranges from c on. In any trie they are consecutive ranges, as many as fit, and if some of
-- the buffer is left, there is no range after the last one. In a coherent trie each is the longest
-- run of its value.
pub record GivesRanges {A : Type 0} (of_number : ℕ → Option A) (number : A → ℕ) (t : Parts A)
    (c : ℕ) (before after : List Range) (count : ℕ) : Type 0 where
  pub ranges : List (CodePointMapRange A)
  pub next : ℕ
  pub given : AreRangesTo of_number t c ranges next
  pub longest : IsCoherentTrie of_number t
      → All (λ r. LongestRun (answers t) (first_of r) (last_of r) (Some r.value)) ranges
  pub count_is : count ≡ length ranges
  pub fits : length ranges ≤ length before
  pub ended : length ranges < length before
      → GivesWalk of_number t.header (contents_of t.index t.values) next None
  pub written : after ≡ written (map (λ r. range_of number (Some r)) ranges) before

-- The code points in ranges of the value. In a coherent trie these are the code points that have
-- it.
pub record IsSetOfValue {A : Type 0} (of_number : ℕ → Option A) (t : Parts A) (value : A)
    (set : List ℕ) : Type 0 where
  pub all : List (CodePointMapRange A)
  pub given : AreRangesFrom of_number t 0 all
  pub held : (c : ℕ) → c < 0x110000 → (holds set c ≡ true) ↔ IsInRangeOf value all c
  pub preimage : IsCoherentTrie of_number t → (c : ℕ) → c < 0x110000
      → (holds set c ≡ true) ↔ (answers t c ≡ Some value)

-- The set of the value that has the number n. It is the empty set if no value has this number.
abbrev pub IsSetOf : {A : Type 0} → (ℕ → Option A) → Parts A → ℕ → List ℕ → Type 0
IsSetOf of_number t n set = MatchOption (of_number n) (set ≡ [])
    (λ value. IsSetOfValue of_number t value set)
