-- Tries whose data start with the values of ASCII.
use Rattle.std.specs.Prelude.{◌≡◌, ℕ, ◌<◌, ◌≤◌, List, [], ◌∷◌, length, slice_get, slice_index, Option}
use Rattle.icu_trie.specs.Parts.{Parts, trie_value}

-- The code points below `end`, which are ASCII, have their values at their own index in the data.
pub record HasAsciiInPlace {T : Type 0} (trie : Parts T) (values : List T) (end : ℕ) : Type 0 where
  pub ascii : end ≤ 0x80
  pub there : end ≤ length values
  pub in_place : (c : ℕ) → c < end → trie_value trie c ≡ slice_get values c

-- If a value takes one byte, the first 128 bytes are those of the first values.
abbrev pub AreFirstBytes : {T : Type 0} → (List ℕ → Option T) → ℕ → List T → List ℕ → Type 0
AreFirstBytes unpack width values bytes =
    width ≡ 1 → (c : ℕ) → c < 0x80 → unpack (slice_index bytes c ∷ []) ≡ slice_get values c
