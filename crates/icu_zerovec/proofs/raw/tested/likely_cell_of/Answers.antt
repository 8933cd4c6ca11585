-- The chunk at this index is the cell.
use Rattle.std.proofs.Common.{◌/◌, ◌<◌, length, get_or, arith, ◌∙◌, ap}
use Rattle.icu_zerovec.proofs.Chunks.{get_or-chunks}
use Rattle.icu_zerovec.proofs.raw.tested.likely_cell_of.Goals as goal

pub returns-then-i-cells : goal.returns-then-i-cells
returns-then-i-cells g c =
    let inside : c.args.i < length c.args.bytes.now / g.row.WIDTH = omega (arith, c.as_chunks.ensures.front_len) in (
      inside,
      c.as_slice.ensures ∙ (c.index-cells-i.is ∙ (ap (λ xs. get_or xs c.args.i c.index-cells-i.result) c.as_chunks.ensures.front
          ∙ get_or-chunks g.row.WIDTH (length c.args.bytes.now / g.row.WIDTH) c.args.i c.args.bytes.now c.index-cells-i.result inside)),
    )
