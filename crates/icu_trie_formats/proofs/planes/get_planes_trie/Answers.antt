use Rattle.icu_trie_formats.proofs.PlanesLemmas.{never_refused}
use Rattle.icu_trie_formats.proofs.planes.get_planes_trie.Goals as goal

pub unreachable-requires : goal.unreachable-requires
unreachable-requires c = never_refused _ _ _ c.index_cells.ensures c.data_cells.ensures c.in-Err.ensures.err
