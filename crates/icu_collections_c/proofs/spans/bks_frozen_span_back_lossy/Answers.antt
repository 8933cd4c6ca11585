use Rattle.icu_collections_c.proofs.spans.bks_frozen_span_back_lossy.Goals as goal

pub returns-clause-set : goal.returns-clause-set
returns-clause-set c = λ ends words rest f e. (rw c.new.ensures at c.span_back_utf8_lossy.ensures.set) ends words rest f e
