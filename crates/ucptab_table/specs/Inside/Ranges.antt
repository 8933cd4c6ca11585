-- The ranges that a trie gives.
use Rattle.std.specs.Prelude.{ℕ}
use Rattle.std.specs.Range.{range_inclusive_start, range_inclusive_end}
use Rattle.icu_trie_core.specs.Runs.{Run}
use Rattle.icu_trie_core.specs.declared.range.CodePointMapRange.{CodePointMapRange}

-- a range of a trie as a run of its values
abbrev pub run_of_values : CodePointMapRange ℕ → Run ℕ
run_of_values x =
    record {
      first = range_inclusive_start x.range;
      last = range_inclusive_end x.range;
      value = x.value;
    }
