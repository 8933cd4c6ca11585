use Rattle.icu_collections_c.proofs.listing.counted.Goals as goal

pub returns-clause-none : goal.returns-clause-none
returns-clause-none c = rw c.trie_in.ensures at c.count_entries-2.ensures.none
