-- Value i is that of cell i.
use Rattle.std.proofs.Common.{◌/◌, ◌<◌, length, arith, ap, sym, ◌∙◌}
use Rattle.std.proofs.lemmas.Bool.{lt-ltb, cond-true}
use Rattle.icu_zerovec.proofs.CellsLemmas.{get-values_of, length-values_of}
use Rattle.icu_zerovec.proofs.Chunks.{length-cell}
use Rattle.icu_zerovec.proofs.cells.get_likely_below.Goals as goal

pub from_unaligned-requires : goal.from_unaligned-requires
from_unaligned-requires g c =
    let h = rw c.WIDTH.ensures at c.in-Some.ensures in
    let n = length-values_of g.T.AsULE.unpack g.T.AsULE.WIDTH c.args.bytes.now c.requires.packed in
    let l : c.args.i < length c.args.bytes.now / g.T.AsULE.WIDTH = omega (arith, h.0, n, c.requires.within) in
    ap length h.1 ∙ length-cell g.T.AsULE.WIDTH c.args.i c.args.bytes.now l

pub returns-in-Some : goal.returns-in-Some
returns-in-Some g c =
    let h = rw c.WIDTH.ensures at c.in-Some.ensures in
    let n = length-values_of g.T.AsULE.unpack g.T.AsULE.WIDTH c.args.bytes.now c.requires.packed in
    let l : c.args.i < length c.args.bytes.now / g.T.AsULE.WIDTH = omega (arith, h.0, n, c.requires.within) in
    c.from_unaligned.ensures ∙ (ap g.T.AsULE.unpack h.1
    ∙ (sym (get-values_of g.T.AsULE.unpack g.T.AsULE.WIDTH c.args.bytes.now c.args.i c.requires.packed l)
    ∙ sym (cond-true _ _ _ (lt-ltb _ _ h.0))))

pub likely_cell_below-requires-clause-within : goal.likely_cell_below-requires-clause-within
likely_cell_below-requires-clause-within g c =
    let n = length-values_of g.T.AsULE.unpack g.T.AsULE.WIDTH c.args.bytes.now c.requires.packed in
    rw c.WIDTH.ensures (omega (arith, n, c.requires.within))
