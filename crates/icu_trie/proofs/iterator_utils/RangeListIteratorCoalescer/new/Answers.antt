use Rattle.itertools.proofs.AdaptorLemmas.{runs_at}
use Rattle.icu_trie.proofs.iterator_utils.RangeListIteratorCoalescer.new.Goals as goal

pub returns-clause-runs : goal.returns-clause-runs
returns-clause-runs g c = runs_at _ _ (c.fuse.ensures.source, c.fuse.ensures.done) tt tt
