-- Values of the first parts of bytes, as a function copies them to a buffer. `value` gives the
-- value of a character, or for None that of an ill-formed part.
use Rattle.std.specs.Prelude.{◌≡◌, ℕ, ◌+◌, ◌≤◌, ◌⊎◌, List, [], ◌∷◌, length, take, drop, slice_get, Option, Some}
use Rattle.icu_utf.specs.Utf8.{IsFirstPart}
use Rattle.icu_trie_text.specs.declared.copy_parts.Copied.{Copied}

-- The parts are the first ones of the bytes, and take `size` bytes in all. Each part starts where
-- the one before it ends.
abbrev pub AreFirstParts : List ℕ → List (Option ℕ) → ℕ → Type 0
AreFirstParts bytes [] size = size ≡ 0
AreFirstParts bytes (part ∷ parts) size =
    (n : ℕ) × (rest : ℕ) × IsFirstPart bytes part n × AreFirstParts (drop n bytes) parts rest
    × (size ≡ n + rest)

module _ {T : Type 0} (value : Option ℕ → Option T) where
  -- The first `size` bytes are a part with the value x.
  abbrev pub HasFirstValue : List ℕ → T → ℕ → Type 0
  HasFirstValue bytes x size =
      (part : Option ℕ) × IsFirstPart bytes part size × (value part ≡ Some x)

  -- The values are those of the first parts of the bytes, which take `size` bytes in all.
  abbrev pub HaveFirstValues : List ℕ → List T → ℕ → Type 0
  HaveFirstValues bytes [] size = size ≡ 0
  HaveFirstValues bytes (x ∷ xs) size =
      (n : ℕ) × (rest : ℕ) × HasFirstValue bytes x n × HaveFirstValues (drop n bytes) xs rest
      × (size ≡ n + rest)

  -- The buffer `new` starts with the values of the first parts of the bytes, and the rest of it is
  -- as in `old`. Copying stopped because the buffer is full or because the bytes end.
  pub record HasCopiedParts (bytes : List ℕ) (old new : List T) (copied : Copied) : Type 0 where
    pub within : copied.values ≤ length old
    pub values : HaveFirstValues bytes (take copied.values new) copied.bytes
    pub rest : drop copied.values new ≡ drop copied.values old
    pub stops : (copied.values ≡ length old) ⊎ (copied.bytes ≡ length bytes)

  -- The same after `size` bytes and `count` values, while copying goes on.
  pub record AreCopiedParts (bytes : List ℕ) (old new : List T) (size count : ℕ) : Type 0 where
    pub taken : size ≤ length bytes
    pub within : count ≤ length old
    pub long : length new ≡ length old
    pub values : HaveFirstValues bytes (take count new) size
    pub rest : (k : ℕ) → count ≤ k → slice_get new k ≡ slice_get old k
