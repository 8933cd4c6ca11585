use Rattle.std.proofs.Common.{◌∙◌}
use Rattle.icu_trie_formats.proofs.PlanesLemmas.{values_of-INDEX, no_fault_of_INDEX}
use Rattle.icu_trie_formats.proofs.planes.index_cells.Goals as goal

pub returns : goal.returns
returns c = c.in-Ok.ensures.ok.1 ∙ values_of-INDEX

pub unreachable-requires : goal.unreachable-requires
unreachable-requires c = no_fault_of_INDEX _ c.in-Err.ensures.err
