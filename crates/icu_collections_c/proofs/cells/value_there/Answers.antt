-- Value i is the value of cell i.
use Rattle.std.proofs.Common.{◌≡◌, ◌∙◌, ap, sym}
use Rattle.icu_zerovec.specs.Cells.{cell}
use Rattle.icu_collections_c.proofs.CellLemmas.{get-values_of}
use Rattle.icu_collections_c.proofs.cells.value_there.Goals as goal

pub returns : goal.returns
returns g c =
    let w = g.T.AsULE.WIDTH in
    let at : c.cell_at.result.now ≡ cell w c.args.bytes.now c.args.i = rw c.WIDTH.ensures at c.cell_at.ensures in
    get-values_of g.T.AsULE.unpack w g.met.T.UnsignedValue.every_cell c.args.bytes.now c.args.i c.requires
    ∙ sym (ap g.T.AsULE.unpack at) ∙ sym c.from_unaligned.ensures ∙ c.in-Some.is
