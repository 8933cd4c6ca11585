-- A cursor of a unit trie that passes the characters of bytes that may be ill-formed UTF-8.
use Rattle.std.specs.Prelude.{◌≡◌, ◌⊎◌, ℕ, ℤ, ◌+◌, ◌≤◌, true, false, List, [], ◌∷◌, ◌++◌, Option, Some, drop, encode_utf8, length}
use Rattle.std.specs.Char.{IsScalar, len_utf8}
use Rattle.std.specs.Char.Escape.{encode_utf16}
use Rattle.std.specs.Str.{StartsWithNoChar}
use Rattle.icu_char16trie.specs.Passed.{Passes}
use Rattle.icu_char16trie.specs.UnitMap.{UnitMap, goes_on}
use Rattle.icu_char16trie.specs.UnitPlaces.{At, HasPassed, is_empty_at}

-- No key continues after the units so far: by the steps, and in each map.
pub record IsAtEnd (cursor : At) : Type 0 where
  pub exact : is_empty_at cursor.units cursor.place ≡ true
  pub keys : (m : UnitMap) (w : List ℕ) → HasPassed cursor m w → goes_on m w ≡ false

-- No key continues, or no character starts the other bytes.
abbrev pub Stops : At → List ℕ → Type 0
Stops cursor rest = IsAtEnd cursor ⊎ StartsWithNoChar rest

-- A character takes the bytes from `end` to before `next`, and its units lead the cursor on.
pub record PassesCharacter (bytes : List ℕ) (end next : ℕ) (old new : At) : Type 0 where
  pub c : ℕ
  pub scalar : IsScalar c
  pub next_is : next ≡ end + len_utf8 c
  pub within : next ≤ length bytes
  pub bytes_are : drop end bytes ≡ encode_utf8 c ++ drop next bytes
  pub passes : Passes old (encode_utf16 c) new

-- The last of some matches, or `found` if there are none.
abbrev pub last_of : Option (ℕ × ℤ) → List (ℕ × ℤ) → Option (ℕ × ℤ)
last_of found [] = found
last_of found (x ∷ xs) = last_of (Some x) xs
