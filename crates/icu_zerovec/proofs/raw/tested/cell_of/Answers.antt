-- The chunk that was found is the cell.
use Rattle.std.proofs.Common.{◌/◌, ◌<◌, length, get_or, arith, ◌∙◌, sym, ap}
use Rattle.std.proofs.lemmas.Bool.{ltb-true}
use Rattle.icu_zerovec.proofs.Chunks.{get_or-chunks}
use Rattle.icu_zerovec.proofs.raw.tested.cell_of.Goals as goal

pub returns-in-Some : goal.returns-in-Some
returns-in-Some g c =
    let h = c.in-Some.ensures.lookup in
    let t = ltb-true _ _ (sym h.0) in
    let inside : c.args.i < length c.args.bytes.now / g.row.WIDTH = omega (arith, t, c.as_chunks.ensures.front_len) in (
      inside,
      c.as_slice.ensures ∙ h.1 ∙ ap (λ xs. get_or xs c.args.i c.in-Some.cell.now) c.as_chunks.ensures.front
          ∙ get_or-chunks g.row.WIDTH (length c.args.bytes.now / g.row.WIDTH) c.args.i c.args.bytes.now c.in-Some.cell.now inside,
    )
