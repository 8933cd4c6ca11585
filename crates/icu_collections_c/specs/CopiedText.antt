-- The values of the parts of a text that may be ill-formed UTF-8, in the caller's buffer.
use Rattle.std.specs.Prelude.{◌≡◌, ℕ, ◌≤◌, ◌⊎◌, List, length, map, Option, unwrap_or}
use Rattle.icu_trie_text.specs.CopiedParts.{AreFirstParts}
use Rattle.icu_zerovec.specs.Buffers.{written}

-- The number whose value a part has: its character. An ill-formed part has 0x110000, which is above
-- all code points, and so the error value.
abbrev pub number_of_part : Option ℕ → ℕ
number_of_part part = unwrap_or part 0x110000

-- The buffer starts with `count` values: those of the first parts of the text, which take `taken`
-- bytes in all. The rest of it is unchanged. It stopped because the buffer is full or because the
-- text ends.
pub record IsCopiedText {T : Type 0} (value : ℕ → T) (text : List ℕ) (old new : List T)
    (count taken : ℕ) : Type 0 where
  pub parts : List (Option ℕ)
  pub first : AreFirstParts text parts taken
  pub count_is : count ≡ length parts
  pub fits : count ≤ length old
  pub buffer : new ≡ written (map (λ part. value (number_of_part part)) parts) old
  pub stops : (count ≡ length old) ⊎ (taken ≡ length text)
