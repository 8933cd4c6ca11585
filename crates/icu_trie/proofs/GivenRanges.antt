-- The ranges that a trie returns are ranges of code points.
use Rattle.std.proofs.Common.{◌≡◌, ℕ, ◌+◌, List, [], ◌∷◌, map, Option, Bool, true, false, refl, arith}
use Rattle.std.specs.List.{All}
use Rattle.std.specs.Prelude.{⊤}
use Rattle.std.specs.declared.ops.RangeInclusive.{RangeInclusive}
use Rattle.std.proofs.lemmas.List.Elements.{All-cons, All-nil}
use Rattle.icu_trie_core.specs.declared.range.CodePointMapRange.{CodePointMapRange}
use Rattle.icu_trie_core.specs.Range.{last_of}
use Rattle.icu_trie.specs.Parts.{Parts}
use Rattle.icu_trie.specs.Ranges.{AreRangesFrom, HasCodePoints, IsRangeOfCodePoints}
use Rattle.icu_trie.specs.RangesOfValue.{AreRangesOfValue, with_value}

-- Each of the ranges is a range of code points.
abbrev pub AreOfCodePoints : {A : Type 0} → List (CodePointMapRange A) → Type 0
AreOfCodePoints [] = ⊤
AreOfCodePoints (x ∷ xs) = IsRangeOfCodePoints x × AreOfCodePoints xs

pub AreOfCodePoints-from_ranges : {A : Type 0} (of_number : ℕ → Option A) (p : Parts A) (c : ℕ) (xs : List (CodePointMapRange A))
    → AreRangesFrom of_number p c xs → AreOfCodePoints xs
AreOfCodePoints-from_ranges of_number p c [] given = tt
AreOfCodePoints-from_ranges of_number p c (x ∷ xs) given =
    let shape = given.0.shape in
    let first = shape.0 in let up = shape.1 in
    ((omega (arith, first, up), shape.2, shape.3), AreOfCodePoints-from_ranges of_number p (last_of x + 1) xs given.1)

All-are : {A : Type 0} (xs : List (CodePointMapRange A)) → AreOfCodePoints xs → All IsRangeOfCodePoints xs
All-are [] are = All-nil IsRangeOfCodePoints
All-are (x ∷ xs) are = All-cons IsRangeOfCodePoints x xs are.0 (All-are xs are.1)

-- All ranges of the trie.
pub All-given : {A : Type 0} (of_number : ℕ → Option A) (p : Parts A) (xs : List (CodePointMapRange A)) → AreRangesFrom of_number p 0 xs
    → All IsRangeOfCodePoints xs
All-given of_number p xs given = All-are xs (AreOfCodePoints-from_ranges of_number p 0 xs given)

module _ {A : Type 0} (eq : A → A → Bool) (v : A) where
  All-next : (x : CodePointMapRange A) (xs : List (CodePointMapRange A)) (b : Bool) → eq x.value v ≡ b → HasCodePoints x.range
      → All HasCodePoints (map (λ r. r.range) (with_value eq v xs)) → All HasCodePoints (map (λ r. r.range) (with_value eq v (x ∷ xs)))
  All-next x xs true e here rest = rw e (All-cons HasCodePoints x.range (map (λ r. r.range) (with_value eq v xs)) here rest)
  All-next x xs false e here rest = rw e rest

  All-with_value : (xs : List (CodePointMapRange A)) → AreOfCodePoints xs → All HasCodePoints (map (λ r. r.range) (with_value eq v xs))
  All-with_value [] are = All-nil HasCodePoints
  All-with_value (x ∷ xs) are = All-next x xs (eq x.value v) refl are.0 (All-with_value xs are.1)

  -- All ranges with a value.
  pub All-selected : (of_number : ℕ → Option A) (p : Parts A) (ranges : List (RangeInclusive ℕ)) → AreRangesOfValue eq of_number p v ranges
      → All HasCodePoints ranges
  All-selected of_number p ranges of = rw of.selected (All-with_value of.all (AreOfCodePoints-from_ranges of_number p 0 of.all of.given))
