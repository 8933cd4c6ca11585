use Rattle.std.proofs.Common.{◌≡◌, ◌/◌, length, arith}
use Rattle.icu_zerovec.specs.Cells.{values_of}
use Rattle.icu_collections_c.proofs.CellLemmas.{length-values_of}
use Rattle.icu_collections_c.proofs.texts.TextValuesPartValues.ascii.Goals as goal

pub value_there-requires : goal.value_there-requires
value_there-requires g c =
    let cells = c.args.self.now.cells.now in
    let count : length (values_of g.T.AsULE.unpack g.T.AsULE.WIDTH cells) ≡ length cells / g.T.AsULE.WIDTH =
    length-values_of g.T.AsULE.unpack g.T.AsULE.WIDTH g.met.T.UnsignedValue.every_cell cells in
    let there = c.args.self.now.ascii.there in
    omega (arith, count, there, c.requires)
