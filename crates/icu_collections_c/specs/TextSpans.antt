-- The spans of a text over a set of code points and strings: ICU's USET_SPAN_SIMPLE and
-- USET_SPAN_NOT_CONTAINED.
use Rattle.std.specs.Prelude.{◌≡◌, ◌⊎◌, ℕ, ℤ, pos, ◌<◌, Bool, true, false, List, [], ◌∷◌, Some, drop, sum}
use Rattle.std.specs.Str.{StartsWithNoChar}
use Rattle.icu_utf.specs.Utf8.{IsFirstPart}
use Rattle.icu_collections_c.specs.Status.{error_number}
use Rattle.icu_collections_c.specs.TextSets.{IsLongestMember}
use Rattle.icu_collections_c.specs.UnitTries.{StartsIllFormed}
use Rattle.icu_collections_c.specs.declared.error.Error.TheVariants.{InvalidUtf8}

-- The bytes start with a character of k bytes, or with none, and k is 0.
abbrev pub IsFirstSize : List ℕ → ℕ → Type 0
IsFirstSize bytes k =
    ((c : ℕ) × IsFirstPart bytes (Some c) k) ⊎ (StartsWithNoChar bytes × (k ≡ 0))

-- A step of k bytes: the longest member that the bytes start with or, for spans outside the set, a
-- character with which no member starts. It is 0 if there is none, which ends the span.
abbrev pub IsStep : (List ℕ → Bool → Type 0) → Bool → List ℕ → ℕ → Type 0
IsStep IsIn true bytes k = IsLongestMember IsIn bytes k
IsStep IsIn false bytes k =
    (IsLongestMember IsIn bytes 0 × IsFirstSize bytes k)
    ⊎ ((n : ℕ) × (0 < n) × IsLongestMember IsIn bytes n × (k ≡ 0))

module _ (Step : List ℕ → ℕ → Type 0) where
  -- Steps of these sizes follow each other from the start of the bytes on, and then there is none.
  abbrev pub AreSteps : List ℕ → List ℕ → Type 0
  AreSteps bytes [] = Step bytes 0
  AreSteps bytes (k ∷ ks) = (0 < k) × Step bytes k × AreSteps (drop k bytes) ks

  -- The first n bytes are the steps from their start on.
  abbrev pub IsSpanBy : List ℕ → ℕ → Type 0
  IsSpanBy bytes n = (ks : List ℕ) × AreSteps bytes ks × (n ≡ sum ks)

  -- `InvalidUtf8` exactly if the bytes are not empty and do not start with a character. Otherwise the
  -- size of the span.
  abbrev pub AnswersTextSetSpan : List ℕ → ℤ → Type 0
  AnswersTextSetSpan bytes returned =
      (StartsIllFormed bytes × (returned ≡ error_number InvalidUtf8))
      ⊎ (¬ (StartsIllFormed bytes) × ((n : ℕ) × (returned ≡ pos n) × IsSpanBy bytes n))
