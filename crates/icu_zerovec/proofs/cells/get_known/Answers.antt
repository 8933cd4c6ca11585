-- Value i is that of cell i.
use Rattle.std.proofs.Common.{length, arith, ap, sym, ◌∙◌}
use Rattle.icu_zerovec.proofs.CellsLemmas.{get-values_of, get_past-values_of, length-values_of}
use Rattle.icu_zerovec.proofs.Chunks.{length-cell}
use Rattle.icu_zerovec.proofs.cells.get_known.Goals as goal

pub from_unaligned-requires : goal.from_unaligned-requires
from_unaligned-requires g c =
    let h = rw c.WIDTH.ensures at c.in-Some.ensures in
    ap length h.1 ∙ length-cell g.T.AsULE.WIDTH c.args.i c.args.bytes.now h.0

pub returns-in-Some : goal.returns-in-Some
returns-in-Some g c =
    let h = rw c.WIDTH.ensures at c.in-Some.ensures in
    c.from_unaligned.ensures ∙ (ap g.T.AsULE.unpack h.1
    ∙ sym (get-values_of g.T.AsULE.unpack g.T.AsULE.WIDTH c.args.bytes.now c.args.i c.requires.packed h.0))

pub returns-in-None : goal.returns-in-None
returns-in-None g c =
    let h = rw c.WIDTH.ensures at c.in-None.ensures in
    sym (get_past-values_of g.T.AsULE.unpack g.T.AsULE.WIDTH c.args.bytes.now c.args.i c.requires.packed h)

pub cell_known-requires-clause-inside : goal.cell_known-requires-clause-inside
cell_known-requires-clause-inside g c = λ t.
    let n = length-values_of g.T.AsULE.unpack g.T.AsULE.WIDTH c.args.bytes.now c.requires.packed in
    let l = c.requires.inside t in
    rw c.WIDTH.ensures (omega (arith, n, l))
