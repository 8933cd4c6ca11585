-- When a list of strings is rejected: by its first fault, from the start. For each string, the
-- tests are in this order: whether it has exactly one code point, whether the next string is equal,
-- and whether the next string is less.
use Rattle.std.specs.Prelude.{ℕ, List, [], ◌∷◌, Option, Some, None}
use Rattle.std.specs.String.{string_bytes}
use Rattle.std.specs.declared.cmp.Ordering.{Ordering}
use Rattle.std.specs.declared.cmp.Ordering.TheVariants.{Less, Equal, Greater}
use Rattle.icu_text_sets.specs.TextSet.{only_char, text_cmp}
use Rattle.icu_text_sets.specs.declared.codepointinvliststringlist.error.InvalidStringList.{InvalidStringList}
use Rattle.icu_text_sets.specs.declared.codepointinvliststringlist.error.InvalidStringList.TheVariants.{InvalidStringLength, StringListNotUnique, StringListNotSorted}

-- A fault and the texts that have it.
pub data TextFault : Type 0 where
  one_code_point : List ℕ → TextFault
  repeated : List ℕ → TextFault
  unsorted : List ℕ → List ℕ → TextFault

-- The fault of a text that has exactly one character, or otherwise the first fault after it.
abbrev pub fault_of_one : List ℕ → Option ℕ → Option TextFault → Option TextFault
fault_of_one t (Some c) later = Some (one_code_point t)
fault_of_one t None later = later

-- The fault of two neighbours, from their order, or otherwise the first fault after them.
abbrev pub fault_of_two : List ℕ → List ℕ → Ordering → Option TextFault → Option TextFault
fault_of_two t u Less later = later
fault_of_two t u Equal later = Some (repeated t)
fault_of_two t u Greater later = Some (unsorted t u)

-- The first fault of a list of texts.
unfoldable pub strings_fault : List (List ℕ) → Option TextFault
strings_fault [] = None
strings_fault (t ∷ []) = fault_of_one t (only_char t) None
strings_fault (t ∷ u ∷ ts) =
    fault_of_one t (only_char t) (fault_of_two t u (text_cmp t u) (strings_fault (u ∷ ts)))

-- The fault that an error contains.
abbrev pub fault_of : InvalidStringList → TextFault
fault_of (InvalidStringLength t) = one_code_point (string_bytes t)
fault_of (StringListNotUnique t) = repeated (string_bytes t)
fault_of (StringListNotSorted t u) = unsorted (string_bytes t) (string_bytes u)
