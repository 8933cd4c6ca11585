-- The keys of a unit trie that are prefixes of a text, as C sees them.
use Rattle.std.specs.Prelude.{◌≡◌, ◌⊎◌, ◌-◌, ◌^◌, min, ℕ, ℤ, zero, suc, pos, List, [], ◌++◌, Option, encode_utf8_all, length, map, take}
use Rattle.std.specs.Str.{chars}
use Rattle.icu_char16trie.specs.Matches.{match_at}
use Rattle.icu_frozen_sets.specs.TextFronts.{IsTextUpTo}
use Rattle.icu_zerovec.specs.Buffers.{written}
use Rattle.icu_collections_c.specs.Status.{error_number}
use Rattle.icu_collections_c.specs.UnitTries.{StartsIllFormed}
use Rattle.icu_collections_c.specs.declared.error.Error.TheVariants.{InvalidUtf8}
use Rattle.icu_collections_c.specs.declared.unit_prefixes.Prefix.{Prefix}

-- A prefix as C sees it, from its length and its value.
abbrev pub prefix_of : ℕ × ℤ → Prefix
prefix_of x = record { length = x.0; value = x.1 }

-- The buffer holds these prefixes, as many as fit. There are n of them.
pub record HasFound (xs : List (ℕ × ℤ)) (old new : List Prefix) (n : ℕ) : Type 0 where
  pub count : n ≡ length xs
  pub buffer : new ≡ written (map prefix_of xs) old

-- Of the first n prefixes of a text, those with a value, the shortest first. The first prefix is
-- the empty one. HasValue k v says that the value of the prefix of k items is v, which may be None,
-- and `size k` is how long that prefix is.
abbrev pub AreValued : (ℕ → Option ℤ → Type 0) → (ℕ → ℕ) → ℕ → List (ℕ × ℤ) → Type 0
AreValued HasValue size zero xs = xs ≡ []
AreValued HasValue size (suc k) xs =
    (before : List (ℕ × ℤ)) × (v : Option ℤ) × AreValued HasValue size k before × HasValue k v
    × (xs ≡ before ++ match_at (size k) v)

-- All prefixes with a value of a text of `most` items: how many there are, and the buffer holds
-- those that fit.
abbrev pub GivesPrefixes : (ℕ → Option ℤ → Type 0) → (ℕ → ℕ) → ℕ → List Prefix → List Prefix → ℕ
    → Type 0
GivesPrefixes HasValue size most old new n =
    (xs : List (ℕ × ℤ)) × AreValued HasValue size (suc most) xs × HasFound xs old new n

-- How many bytes of UTF-8 the first k of some characters take.
abbrev pub bytes_before : List ℕ → ℕ → ℕ
bytes_before cs k = length (encode_utf8_all (take k cs))

-- The same for a UTF-8 text, with lengths in bytes. HasValue cs k v says that the value of the
-- first k of the characters cs is v.
abbrev pub GivesTextPrefixes : (List ℕ → ℕ → Option ℤ → Type 0) → List ℕ → List Prefix
    → List Prefix → ℕ → Type 0
GivesTextPrefixes HasValue text old new n =
    GivesPrefixes (HasValue (chars text)) (bytes_before (chars text)) (length (chars text)) old new
    n

-- For bytes that may be ill-formed, whose longest UTF-8 prefix is the text: the prefixes of the
-- text, and 2^63 - 1 if there are more, one after each byte of a text of that size. `InvalidUtf8`, with
-- the buffer unchanged, exactly if the bytes are not empty and do not start with a character.
abbrev pub AnswersPrefixes : (List ℕ → ℕ → Option ℤ → Type 0) → List ℕ → List Prefix → List Prefix
    → ℤ → Type 0
AnswersPrefixes HasValue bytes old new returned =
    (StartsIllFormed bytes × (returned ≡ error_number InvalidUtf8) × (new ≡ old))
    ⊎ (¬ (StartsIllFormed bytes)
    × ((n : ℕ) × IsTextUpTo bytes n × ((count : ℕ) × (returned ≡ pos (min count (2 ^ 63 - 1)))
    × GivesTextPrefixes HasValue (take n bytes) old new count)))
