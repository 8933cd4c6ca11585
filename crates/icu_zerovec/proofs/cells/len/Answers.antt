-- There are as many values as whole cells.
use Rattle.std.proofs.Common.{sym, ◌∙◌}
use Rattle.icu_zerovec.proofs.CellsLemmas.{length-values_of}
use Rattle.icu_zerovec.proofs.cells.len.Goals as goal

pub returns-clause-len : goal.returns-clause-len
returns-clause-len g c = c.count.ensures.count ∙ sym (length-values_of g.T.AsULE.unpack g.T.AsULE.WIDTH c.args.bytes.now c.requires)
