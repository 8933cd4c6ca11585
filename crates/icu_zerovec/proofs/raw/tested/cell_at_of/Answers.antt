-- The chunk at this index is the cell.
use Rattle.std.proofs.Common.{◌/◌, length, get_or, ◌∙◌, ap}
use Rattle.icu_zerovec.proofs.Chunks.{get_or-chunks}
use Rattle.icu_zerovec.proofs.raw.tested.cell_at_of.Goals as goal

pub returns : goal.returns
returns g c =
    c.as_slice.ensures ∙ (c.index-cells-i.is ∙ (ap (λ xs. get_or xs c.args.i c.index-cells-i.result) c.as_chunks.ensures.front
    ∙ get_or-chunks g.row.WIDTH (length c.args.bytes.now / g.row.WIDTH) c.args.i c.args.bytes.now c.index-cells-i.result c.requires.within))
