-- The categories of characters: their numbers, and the byte in which each is stored.
use Rattle.std.specs.Prelude.{◌≡◌, ℕ, List, [], ◌∷◌, length, slice_index, Option, Some, None, refl, Bool, true, false, ◌==◌, if◌then◌else◌}
use Rattle.std.proofs.Common.{zero, suc, lit<}
use Rattle.icu_collections.specs.ZeroVec.{AreBytes}
use Rattle.examples.specs.declared.categories.Category.{Category}
use Rattle.examples.specs.declared.categories.Category.TheVariants.{Other, Letter, Number}

-- The number of a category.
abbrev pub number_of : Category → ℕ
number_of Other = 0
number_of Letter = 1
number_of Number = 2

-- The category with a number, if there is one.
abbrev pub category_of : ℕ → Option Category
category_of n =
    if n == 0 then Some Other
    else if n == 1 then Some Letter
    else if n == 2 then Some Number
    else None

-- A category is stored as the byte of its number.
abbrev pub bytes_of : Category → List ℕ
bytes_of c = number_of c ∷ []

-- The category that a byte stores, if there is one.
abbrev pub category_in : List ℕ → Option Category
category_in bytes = category_of (slice_index bytes 0)

-- The category is `Letter`.
abbrev pub is_letter : Option Category → Bool
is_letter (Some Letter) = true
is_letter _ = false

-- ---- the laws of a packed value, and of a value with a number

-- A category takes one byte.
pub one_byte : (c : Category) → length (bytes_of c) ≡ 1
one_byte c = refl

-- A category is read back from its number.
pub number_back : (c : Category) → category_of (number_of c) ≡ Some c
number_back Other = refl
number_back Letter = refl
number_back Number = refl

-- A category is read back from its byte.
pub byte_back : (c : Category) → category_in (bytes_of c) ≡ Some c
byte_back Other = refl
byte_back Letter = refl
byte_back Number = refl

-- The byte of a category is a byte.
pub are_bytes : (c : Category) → AreBytes (bytes_of c)
are_bytes Other zero = lit< tt
are_bytes Other (suc i) = lit< tt
are_bytes Letter zero = lit< tt
are_bytes Letter (suc i) = lit< tt
are_bytes Number zero = lit< tt
are_bytes Number (suc i) = lit< tt
