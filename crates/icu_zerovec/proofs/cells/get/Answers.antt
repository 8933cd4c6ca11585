-- Value i is that of cell i.
use Rattle.std.proofs.Common.{sym, ◌∙◌, arith}
use Rattle.icu_zerovec.proofs.CellsLemmas.{get-values_of, get_past-values_of}
use Rattle.icu_zerovec.proofs.cells.get.Goals as goal

pub returns-then-i-count : goal.returns-then-i-count
returns-then-i-count g c =
    c.read.ensures ∙ sym (get-values_of g.T.AsULE.unpack g.T.AsULE.WIDTH c.args.bytes.now c.args.i c.requires (omega arith))

pub returns-else-i-count : goal.returns-else-i-count
returns-else-i-count g c =
    sym (get_past-values_of g.T.AsULE.unpack g.T.AsULE.WIDTH c.args.bytes.now c.args.i c.requires (omega arith))
