use Rattle.icu_collections.proofs.CallerLemmas.{ranges-of-map}
use Rattle.examples.proofs.tables.runs_of_rows.Goals as goal

pub returns-clause-runs : goal.returns-clause-runs
returns-clause-runs c =
    let ran = c.in_ok-ranges.ensures.ran in
    let last = ran.1.2 tt in
    let runs = c.iter_ranges.ensures.runs c.in_ok-trie.ensures.trie.built.coherent ran.0 (last.0, (ran.1.0, ran.1.1, last.1)) in
    rw ran.2.0 (ranges-of-map _ _ c.in_ok-trie.ensures.trie.ranges ran.0 runs)
