-- The width says which trie was tested.
use Rattle.icu_collections_c.proofs.ranges.bks_trie_is_coherent.Goals as goal

pub returns-in-1 : goal.returns-in-1
returns-in-1 c = rw c.in-1.is (rw c.header_of-header.ensures at c.is_coherent_in.ensures)
