-- The numbers of trie values, and the numbers of trie types in files.
use Rattle.std.specs.Prelude.{◌≡◌, ℕ, ◌<◌, nat_lt, Bool, Option, Some, None, if◌then◌else◌, ℤ, pos, negsuc, codes, Result, Ok, Err}
use Rattle.std.specs.Int.{w32, cast_signed}
use Rattle.std.proofs.Math.Utf8.{scalar}
use Rattle.icu_trie_core.specs.declared.header.TrieType.{TrieType}
use Rattle.icu_trie_core.specs.declared.header.TrieType.TheVariants.{Fast, Small}
use Rattle.icu_trie_core.specs.declared.error.CodePointTrieError.{CodePointTrieError}
use Rattle.icu_trie_core.specs.declared.error.CodePointTrieError.TheVariants.{FromDeserialized}

-- The unsigned value below the limit with number i, which is i itself.
abbrev pub fitting : ℕ → ℕ → Option ℕ
fitting limit i = if nat_lt i limit then Some i else None

-- True if z is in -limit..limit.
abbrev pub is_within : ℕ → ℤ → Bool
is_within limit (pos n) = nat_lt n limit
is_within limit (negsuc n) = nat_lt n limit

-- The signed value in -limit..limit with number i, its 32-bit two's complement.
abbrev pub signed_fitting : ℕ → ℕ → Option ℤ
signed_fitting limit i =
    if is_within limit (cast_signed w32 i) then Some (cast_signed w32 i) else None

-- The character with number i, if i is a Unicode scalar value.
abbrev pub character : ℕ → Option ℕ
character i = if scalar i then Some i else None

-- The number of a trie type in a file.
abbrev pub type_number : TrieType → ℕ
type_number Fast = 0
type_number Small = 1

-- The trie type with number n. A number above 1 is an error with this reason.
abbrev pub GivesType : ℕ → Result TrieType CodePointTrieError → Type 0
GivesType n (Ok t) = n ≡ type_number t
GivesType n (Err (FromDeserialized reason)) =
    (1 < n) × (reason.now ≡ codes "Cannot parse value for trie_type")
GivesType n (Err _) = ⊥
