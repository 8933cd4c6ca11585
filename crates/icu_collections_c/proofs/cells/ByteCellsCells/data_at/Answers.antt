use Rattle.icu_collections_c.proofs.CellLemmas.{length-values_of}
use Rattle.icu_collections_c.proofs.cells.ByteCellsCells.data_at.Goals as goal

pub value_there-requires : goal.value_there-requires
value_there-requires g c =
    rw (length-values_of g.T.AsULE.unpack g.T.AsULE.WIDTH g.met.T.UnsignedValue.every_cell c.args.self.now.values.now) at c.requires
