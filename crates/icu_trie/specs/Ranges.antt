-- The ranges of a trie.
use Rattle.std.specs.Prelude.{◌≡◌, ℕ, ◌+◌, ◌<◌, ◌≤◌, false, List, [], ◌∷◌, Option, Some, None, Any}
use Rattle.std.specs.Range.{range_inclusive_start, range_inclusive_end, range_inclusive_exhausted}
use Rattle.std.specs.declared.ops.RangeInclusive.{RangeInclusive}
use Rattle.icu_trie_core.specs.Contents.{contents_of}
use Rattle.icu_trie_core.specs.declared.range.CodePointMapRange.{CodePointMapRange}
use Rattle.icu_trie_core.specs.Format.{answer}
use Rattle.icu_trie_core.specs.Coherence.{IsCoherent}
use Rattle.icu_trie.specs.Parts.{Parts}
use Rattle.icu_trie_core.specs.Range.{first_of, last_of, GivesWalk}

-- A range of code points: not empty, within the code points, and not exhausted.
abbrev pub HasCodePoints : RangeInclusive ℕ → Type 0
HasCodePoints r =
    (range_inclusive_start r ≤ range_inclusive_end r) × (range_inclusive_end r < 0x110000)
    × (range_inclusive_exhausted r ≡ false)

module _ {A : Type 0} where
  -- The code points of a range with a value are such a range.
  abbrev pub IsRangeOfCodePoints : CodePointMapRange A → Type 0
  IsRangeOfCodePoints x = HasCodePoints x.range

  -- One of the ranges has the value and contains c.
  abbrev pub IsInRangeOf : A → List (CodePointMapRange A) → ℕ → Type 0
  IsInRangeOf value xs c = Any (λ x. (x.value ≡ value) × (first_of x ≤ c) × (c ≤ last_of x)) xs

  -- The look-up results of a trie.
  abbrev pub answers : Parts A → ℕ → Option A
  answers p = answer p.header (contents_of p.index p.values)

  -- The trie is coherent.
  abbrev pub IsCoherentTrie : (ℕ → Option A) → Parts A → Type 0
  IsCoherentTrie of_number p = IsCoherent of_number p.header (contents_of p.index p.values)

-- The list of the ranges that a trie returns from c on: each starts right after the previous one,
-- and after the last one there is none.
abbrev pub AreRangesFrom : {A : Type 0} → (ℕ → Option A) → Parts A → ℕ → List (CodePointMapRange A)
    → Type 0
AreRangesFrom of_number p c [] = GivesWalk of_number p.header (contents_of p.index p.values) c None
AreRangesFrom of_number p c (x ∷ xs) =
    GivesWalk of_number p.header (contents_of p.index p.values) c (Some x)
    × AreRangesFrom of_number p (last_of x + 1) xs
