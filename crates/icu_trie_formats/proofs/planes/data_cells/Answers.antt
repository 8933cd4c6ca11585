use Rattle.std.proofs.Common.{◌∙◌}
use Rattle.icu_trie_formats.proofs.PlanesLemmas.{values_of-DATA, no_fault_of_DATA}
use Rattle.icu_trie_formats.proofs.planes.data_cells.Goals as goal

pub returns : goal.returns
returns c = c.in-Ok.ensures.ok.1 ∙ values_of-DATA

pub unreachable-requires : goal.unreachable-requires
unreachable-requires c = no_fault_of_DATA _ c.in-Err.ensures.err
