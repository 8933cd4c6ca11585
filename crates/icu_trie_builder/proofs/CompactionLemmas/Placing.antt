-- Placing one block.
use Rattle.std.proofs.Common.{◌≡◌, ◌≢◌, ℕ, ◌+◌, ◌-◌, ◌<◌, ◌≤◌, true, List, ◌++◌, length, take, drop, arith, ◌∙◌}
use Rattle.std.proofs.lemmas.List.{length-append, length-drop, take-append-le, take_all}
use Rattle.std.proofs.lemmas.List.Elements.{All-append, All-drop}
use Rattle.icu_trie_builder.specs.Inside.Compaction.Placed.{IsPlacedBlock, OccursNowhere}
use Rattle.icu_trie_builder.specs.Inside.Compaction.Windows.{IsLeast}
use Rattle.icu_trie_builder.proofs.CompactionLemmas.TableLemmas.{least-overlap}

-- A block that occurs.
pub placed-found : (limit at : ℕ) (x cells : List ℕ) → IsLeast (length x) at cells x → IsPlacedBlock limit x cells cells at
placed-found limit at x cells least = record {
  least = least;
  kept = take_all (length cells) cells (omega arith);
  grown = λ lt. absurd (omega (arith, lt));
  capped = omega arith;
  drawn = λ p own old. old;
}

-- A block that is appended, overlapping the longest tail of the cells that equals a prefix of it.
pub placed-added : (limit c : ℕ) (x cells : List ℕ) → c < length x → c ≤ length cells → drop (length cells - c) cells ≡ take c x
    → ((m : ℕ) → c < m → m < length x → m ≤ length cells → drop (length cells - m) cells ≢ take m x)
    → OccursNowhere x cells → length cells - c ≤ limit → IsPlacedBlock limit x cells (cells ++ drop c x) (length cells - c)
placed-added limit c x cells below within tail longest none low =
    let len : length (cells ++ drop c x) ≡ length cells + (length x - c) = omega (arith, length-append cells (drop c x), length-drop c x) in
    record {
      least = least-overlap (length x) c cells x (omega arith) below within tail longest (λ q le. none q);
      kept = take-append-le (length cells) cells (drop c x) (omega arith) ∙ take_all (length cells) cells (omega arith);
      grown = λ lt. (omega (arith, len), none);
      capped = omega (arith, len, within, low);
      drawn = λ p own old. let P : ℕ → Type 0 = λ n. p n ≡ true in
          All-append P cells (drop c x) old (All-drop P c x own);
    }
