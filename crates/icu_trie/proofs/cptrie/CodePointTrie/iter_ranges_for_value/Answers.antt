use Rattle.icu_trie.proofs.ValueLemmas.{selected-from_run}
use Rattle.icu_trie.proofs.GivenRanges.{All-selected}
use Rattle.icu_trie.proofs.cptrie.CodePointTrie.iter_ranges_for_value.Goals as goal

pub returns-clause-ranges : goal.returns-clause-ranges
returns-clause-ranges g c = λ xs d.
    let all = selected-from_run _ _ xs _ d.1.0 d.0 d.1.1 d.1.2 in
    record { all = all.0; given = c.iter_ranges.ensures.ranges all.0 all.1; selected = all.2 }

pub returns-clause-runs : goal.returns-clause-runs
returns-clause-runs g c = λ coherent xs d.
    let all = selected-from_run _ _ xs _ d.1.0 d.0 d.1.1 d.1.2 in
    record { all = all.0; maximal = c.iter_ranges.ensures.runs coherent all.0 all.1; selected = all.2 }

pub returns-clause-shape : goal.returns-clause-shape
returns-clause-shape g c = λ xs d.
    let all = selected-from_run _ _ xs _ d.1.0 d.0 d.1.1 d.1.2 in
    All-selected g.T.PartialEq.eq c.args.value g.T.TrieValue.of_number c.args.self.now xs
    (record { all = all.0; given = c.iter_ranges.ensures.ranges all.0 all.1; selected = all.2 })
