-- There is no value past the cells.
use Rattle.std.proofs.Common.{◌≤◌, ◌/◌, sym, length}
use Rattle.icu_collections_c.proofs.CellLemmas.{get_past-values_of}
use Rattle.icu_collections_c.proofs.cells.value_at.Goals as goal

pub returns-then-i-bytes : goal.returns-then-i-bytes
returns-then-i-bytes g c =
    let past : length c.args.bytes.now / g.T.AsULE.WIDTH ≤ c.args.i = rw c.WIDTH.ensures at c.if-i-bytes.true in
    sym (get_past-values_of g.T.AsULE.unpack g.T.AsULE.WIDTH g.met.T.UnsignedValue.every_cell c.args.bytes.now c.args.i past)
