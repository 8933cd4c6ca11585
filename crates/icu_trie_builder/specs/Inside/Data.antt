-- Data whose blocks have been placed.
use Rattle.std.specs.Prelude.{◌≡◌, ℕ, ◌+◌, ◌-◌, ◌*◌, ◌/◌, ◌%◌, ◌<◌, ◌≤◌, List, Some, length, slice_get, slice_index}
use Rattle.icu_zerovec.specs.CodePoints.{code_point_limit}
use Rattle.icu_trie_core.specs.declared.header.TrieType.{TrieType}
use Rattle.icu_trie_core.specs.Format.{fast_limit, high_value}
use Rattle.icu_trie_builder.specs.Inside.Index.Layout.{AllBelow}
use Rattle.icu_trie_builder.specs.NullBlock.{SomeHoldsOne}
use Rattle.icu_trie_builder.specs.Inside.FilledBlocks.{LieIn}

-- Blocks number b and d of k code points have the same numbers under f.
abbrev pub SameNumbers : (ℕ → ℕ) → ℕ → ℕ → ℕ → Type 0
SameNumbers f k b d = (i : ℕ) → i < k → f (b * k + i) ≡ f (d * k + i)

-- Valid data for the numbers f. `fast` has the offsets of the blocks of 64 below the fast limit.
-- `small` has those of the blocks of 16 from there up to the high start. Their cells are the
-- numbers of f. The null block has the offset `null`, and all its cells are `null_value`.
pub record IsData (t : TrieType) (high null null_value : ℕ) (f : ℕ → ℕ) (fast small values : List ℕ)
    : Type 0 where
  pub fast_len : length fast ≡ fast_limit t / 64
  pub small_len : length small ≡ (high - fast_limit t) / 16
  pub on_fast : (c : ℕ) → c < fast_limit t
      → slice_get values (slice_index fast (c / 64) + c % 64) ≡ Some (f c)
  pub on_small : (c : ℕ) → fast_limit t ≤ c → c < high
      → slice_get values (slice_index small (c / 16 - fast_limit t / 16) + c % 16) ≡ Some (f c)
  pub on_high : (c : ℕ) → high ≤ c → c < code_point_limit → high_value values ≡ Some (f c)
  -- Equal blocks have the same offset. Blocks below U+0080 are exempt.
  pub shared_fast : (b d : ℕ) → 2 ≤ b → 2 ≤ d → b < fast_limit t / 64 → d < fast_limit t / 64
      → SameNumbers f 64 b d → slice_index fast b ≡ slice_index fast d
  pub shared_small : (b d : ℕ) → fast_limit t / 16 ≤ b → fast_limit t / 16 ≤ d → b * 16 < high
      → d * 16 < high
      → SameNumbers f 16 b d
      → slice_index small (b - fast_limit t / 16) ≡ slice_index small (d - fast_limit t / 16)
  -- Blocks at the null offset have the null value throughout.
  pub null_fast : (b i : ℕ) → b < fast_limit t / 64 → i < 64 → slice_index fast b ≡ null
      → f (b * 64 + i) ≡ null_value
  pub null_small : (b i : ℕ) → fast_limit t / 16 ≤ b → b * 16 < high → i < 16
      → slice_index small (b - fast_limit t / 16) ≡ null → f (b * 16 + i) ≡ null_value
  -- If some block has one number throughout, such a block has the null offset.
  pub names_null : SomeHoldsOne t high f (λ _. Unit {0}) (λ _. Unit {0})
      → SomeHoldsOne t high f (λ b. slice_index fast b ≡ null)
      (λ b. slice_index small (b - fast_limit t / 16) ≡ null)
  -- If no block has one number throughout, the null offset is 0xfffff.
  pub no_null : (SomeHoldsOne t high f (λ _. Unit {0}) (λ _. Unit {0}) → ⊥) → null ≡ 0xfffff
  -- Offsets of fast blocks have at most 16 bits, and those of small blocks at most 18.
  pub fast_fit : AllBelow 0x10000 fast
  pub small_fit : AllBelow 0x40000 small
  -- Blocks of 64 end inside the data.
  pub fast_inside : LieIn 64 fast values
