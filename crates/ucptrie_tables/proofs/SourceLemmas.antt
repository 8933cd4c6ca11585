-- Names byte by byte.
use Rattle.std.proofs.Common.{◌≡◌, ℕ, ◌≤◌, false, List, [], ◌∷◌, length, get_or, refl, arith}
use Rattle.std.specs.Char.{is_ascii_digit}
use Rattle.std.specs.List.{list_all}
use Rattle.ucptrie_tables.specs.Source.{is_name, is_name_byte}

-- a text that has a byte, and not a digit first
pub is_name-all : (bytes : List ℕ) → 1 ≤ length bytes → is_ascii_digit (get_or bytes 0 0) ≡ false
    → is_name bytes ≡ list_all is_name_byte bytes
is_name-all [] some first = absurd (omega (arith, some))
is_name-all (b ∷ bytes) some first = rw first refl
