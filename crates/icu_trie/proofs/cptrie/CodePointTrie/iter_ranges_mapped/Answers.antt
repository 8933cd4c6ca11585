use Rattle.std.proofs.Common.{refl, arith}
use Rattle.icu_trie.specs.MappedRanges.{iter_mapped_source, iter_mapped_steps, GivesMapped}
use Rattle.icu_trie.specs.Coalescer.{coalescer_steps}
use Rattle.icu_trie.proofs.IteratorLemmas.{AreRunsFrom-from_ranges}
use Rattle.icu_trie.proofs.GivenRanges.{AreOfCodePoints-from_ranges}
use Rattle.icu_trie.proofs.MappedLemmas.{Drains-inside, Drains-behind, answered-from_run, AreAnswered-by, AreOfCodePoints-answered, All-joined_ranges, joined_ranges-maximal}
use Rattle.icu_trie.proofs.cptrie.CodePointTrie.iter_ranges_mapped.Goals as goal

pub returns-clause-ranges : goal.returns-clause-ranges
returns-clause-ranges g c = λ ys d.
    let inner = Drains-inside {steps = iter_mapped_steps g.T.TrieValue.of_number (goal.F-post g) g.U.PartialEq.eq}
    (coalescer_steps (GivesMapped g.T.TrieValue.of_number (goal.F-post g)) g.U.PartialEq.eq) iter_mapped_source (λ s r t k. k) _ ys
    d in
    let z = Drains-behind _ c.new.ensures.runs ys inner in
    let x = answered-from_run g.T.TrieValue.of_number (goal.F-post g) c.args.map z.0 _ z.1.1.0 z.1.0 refl z.1.1.1 z.1.1.2 in
    record { all = x.0; given = c.iter_ranges.ensures.ranges x.0 x.1; answered = z.0; answers = x.2; joins = z.2 }

pub returns-clause-shape : goal.returns-clause-shape
returns-clause-shape g c = λ ys d.
    let r = returns-clause-ranges g c ys d in
    let are = AreOfCodePoints-from_ranges _ _ 0 r.all r.given in
    rw r.joins (All-joined_ranges _ r.answered (AreOfCodePoints-answered (goal.F-post g) c.args.map r.all r.answered r.answers are))

pub returns-clause-runs : goal.returns-clause-runs
returns-clause-runs g c = λ h by coherent ys d.
    let r = returns-clause-ranges g c ys d in
    let are = AreOfCodePoints-from_ranges _ _ 0 r.all r.given in
    let maximal = AreRunsFrom-from_ranges _ _ coherent 0 r.all (omega arith) r.given in
    rw (r.joins, AreAnswered-by (goal.F-post g) c.args.map h by r.all r.answered r.answers)
    (joined_ranges-maximal _ g.met.U.Eq.laws.refl h _ r.all are maximal)
