-- The value at an index is that of its cell, which is a value.
use Rattle.std.proofs.Common.{◌<◌, ◌/◌, length, sym, ◌∙◌, arith}
use Rattle.icu_zerovec.proofs.CellsLemmas.{length-values_of, get-values_of, not_none}
use Rattle.icu_zerovec.proofs.cells.at.Goals as goal

pub read-requires : goal.read-requires
read-requires g c = omega (arith, c.requires.within, length-values_of g.T.AsULE.unpack g.T.AsULE.WIDTH c.args.bytes.now c.requires.packed)

pub unreachable-requires : goal.unreachable-requires
unreachable-requires g c =
    let inside : c.args.i < length c.args.bytes.now / g.T.AsULE.WIDTH =
    omega (arith, c.requires.within, length-values_of g.T.AsULE.unpack g.T.AsULE.WIDTH c.args.bytes.now c.requires.packed) in
    not_none _ (c.requires.packed.valued c.args.i inside) (sym c.read.ensures ∙ c.in-None.is)

pub returns : goal.returns
returns g c =
    let inside : c.args.i < length c.args.bytes.now / g.T.AsULE.WIDTH =
    omega (arith, c.requires.within, length-values_of g.T.AsULE.unpack g.T.AsULE.WIDTH c.args.bytes.now c.requires.packed) in
    get-values_of g.T.AsULE.unpack g.T.AsULE.WIDTH c.args.bytes.now c.args.i c.requires.packed inside ∙ sym c.read.ensures ∙ c.in-Some.is
