use Rattle.std.proofs.Common.{◌-◌, ℕ, ◌≤◌, List, ◌++◌}
use Rattle.icu_trie_core.specs.declared.range.CodePointMapRange.{CodePointMapRange}
use Rattle.ucptrie_tables.specs.Differences.{AreDifferencesFrom}
use Rattle.ucptrie_tables.proofs.diff.differences.Given as goal

-- the differences to come lead on from those so far
abbrev pub invariant-loop-start : goal.invariant-loop-start
invariant-loop-start l = record {
  within : l.start ≤ 0x110000;
  onward : (ds : List (CodePointMapRange (ℕ × ℕ))) → AreDifferencesFrom l.first l.second l.start ds
      → AreDifferencesFrom l.first l.second 0 (l.found.items ++ ds);
}

abbrev pub decreases-loop-start : goal.decreases-loop-start
decreases-loop-start l = 0x110000 - l.start
