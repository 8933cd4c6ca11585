use Rattle.ucptrie_forms.proofs.CellLemmas.{map-self}
use Rattle.ucptrie_forms.proofs.cells.push_data.Goals as goal

pub returns : goal.returns
returns c = simp (map-self, c.parts.ensures.values) at c.push_cells.ensures
