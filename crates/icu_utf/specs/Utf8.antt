-- The parts of bytes that may be ill-formed UTF-8: characters, and the maximal subparts of
-- ill-formed sequences, each of which becomes one U+FFFD (the Unicode Standard, section 3.9: D93b
-- and "U+FFFD Substitution of Maximal Subparts"; WHATWG's decoder uses the same parts).
use Rattle.std.specs.Prelude.{◌≡◌, ◌≢◌, ℕ, ◌-◌, ◌<◌, ◌≤◌, List, ◌++◌, length, take, drop, Option, Some, None, encode_utf8}
use Rattle.std.specs.Char.{IsScalar, len_utf8}
use Rattle.std.specs.Str.{StartsWithNoChar}

-- The bytes are a prefix of the UTF-8 bytes of a character, or all of them.
abbrev pub BeginsCharacter : List ℕ → Type 0
BeginsCharacter bytes = (c : ℕ) × IsScalar c × ((more : List ℕ) × (bytes ++ more ≡ encode_utf8 c))

-- The bytes do not start with a character, and their first `size` bytes are their longest prefix
-- that starts one. If there is no such prefix, size is 1.
pub record IsIllFormedPart (bytes : List ℕ) (size : ℕ) : Type 0 where
  pub no_character : StartsWithNoChar bytes
  pub some : 0 < size
  pub within : size ≤ length bytes
  pub front : 1 < size → BeginsCharacter (take size bytes)
  pub longest : (n : ℕ) → size < n → n ≤ length bytes → ¬ (BeginsCharacter (take n bytes))

-- The first `size` bytes are those of a character, or, for None, an ill-formed part.
abbrev pub IsFirstPart : List ℕ → Option ℕ → ℕ → Type 0
IsFirstPart bytes (Some c) size =
    IsScalar c × (size ≡ len_utf8 c) × (bytes ≡ encode_utf8 c ++ drop size bytes)
IsFirstPart bytes None size = IsIllFormedPart bytes size

-- No suffix of the bytes is a character.
abbrev pub EndsWithNoChar : List ℕ → Type 0
EndsWithNoChar bytes = (c : ℕ) (front : List ℕ) → IsScalar c → bytes ≢ front ++ encode_utf8 c

-- The last `size` bytes are those of the character.
pub record IsLastCharacter (bytes : List ℕ) (c size : ℕ) : Type 0 where
  pub scalar : IsScalar c
  pub size_is : size ≡ len_utf8 c
  pub within : size ≤ length bytes
  pub bytes_are : bytes ≡ take (length bytes - size) bytes ++ encode_utf8 c
