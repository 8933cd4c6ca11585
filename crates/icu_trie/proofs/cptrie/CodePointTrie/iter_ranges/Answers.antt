use Rattle.std.proofs.Common.{refl, arith}
use Rattle.icu_trie.proofs.IteratorLemmas.{AreRangesFrom-from_drained, AreRunsFrom-from_ranges}
use Rattle.icu_trie.proofs.GivenRanges.{All-given}
use Rattle.icu_trie_core.proofs.CallerLemmas.{runs-unique}
use Rattle.icu_trie.proofs.cptrie.CodePointTrie.iter_ranges.Goals as goal

pub returns-clause-ranges : goal.returns-clause-ranges
returns-clause-ranges g c = λ xs d. AreRangesFrom-from_drained _ _ xs _ refl refl d

pub returns-clause-runs : goal.returns-clause-runs
returns-clause-runs g c = λ coherent xs d. AreRunsFrom-from_ranges _ _ coherent 0 xs (omega arith)
    (AreRangesFrom-from_drained _ _ xs _ refl refl d)

pub returns-clause-only : goal.returns-clause-only
returns-clause-only g c = λ coherent xs d runs are.
    runs-unique _ runs _ are (AreRunsFrom-from_ranges _ _ coherent 0 xs (omega arith) (AreRangesFrom-from_drained _ _ xs _ refl refl d))

pub returns-clause-shape : goal.returns-clause-shape
returns-clause-shape g c = λ xs d. All-given _ _ xs (AreRangesFrom-from_drained _ _ xs _ refl refl d)
