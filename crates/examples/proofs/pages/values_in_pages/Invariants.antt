use Rattle.std.proofs.Common.{◌≡◌, ℕ, ◌≤◌, List, ◌++◌, length, map}
use Rattle.icu_collections.specs.CodePointTrieText.{AreValuesOfBytes}
use Rattle.examples.specs.Pages.{AreAllValues}
use Rattle.examples.proofs.pages.values_in_pages.Given as goal

-- The values so far, followed by those of the rest, are those of all bytes.
abbrev pub invariant-loop-rest : goal.invariant-loop-rest
invariant-loop-rest l = record {
  within : length l.rest ≤ length l.fn.bytes;
  page : length l.page ≡ 64;
  values : (more : List (ℕ × ℕ)) → AreValuesOfBytes l.fn.table l.rest more
      → AreAllValues l.fn.table l.fn.bytes (l.all.items ++ map (λ item. item.1) more);
}

abbrev pub decreases-loop-rest : goal.decreases-loop-rest
decreases-loop-rest l = length l.rest
