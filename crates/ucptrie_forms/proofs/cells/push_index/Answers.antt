use Rattle.ucptrie_forms.proofs.CellLemmas.{map-self}
use Rattle.ucptrie_forms.proofs.cells.push_index.Goals as goal

pub returns : goal.returns
returns c = simp (map-self, c.parts.ensures.index) at c.push_cells.ensures
