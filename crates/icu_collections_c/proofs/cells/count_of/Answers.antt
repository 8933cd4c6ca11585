-- There are as many values as whole cells.
use Rattle.icu_collections_c.proofs.CellLemmas.{length-values_of}
use Rattle.icu_collections_c.proofs.cells.count_of.Goals as goal

pub returns : goal.returns
returns g c = let e = length-values_of g.T.AsULE.unpack g.T.AsULE.WIDTH g.met.T.UnsignedValue.every_cell c.args.bytes.now in cc
