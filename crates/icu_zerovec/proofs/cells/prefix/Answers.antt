-- The first `end` cells are packed, and have the first `end` values.
use Rattle.std.proofs.Common.{◌*◌, arith, sym}
use Rattle.std.proofs.lemmas.List.{length-take-le}
use Rattle.icu_zerovec.proofs.PrefixLemmas.{IsPacked-front, take-values_of, within_bytes}
use Rattle.icu_zerovec.proofs.cells.prefix.Goals as goal

pub overflow_mul-result : goal.overflow_mul-result
overflow_mul-result g c =
    let fits = within_bytes g.T.AsULE.unpack g.T.AsULE.WIDTH c.args.bytes.now c.args.end g.met.T.AsULE.some_width c.requires.packed c.requires.within in
    rw c.WIDTH.ensures (omega (arith, fits))

pub slice_bounds-result-end : goal.slice_bounds-result-end
slice_bounds-result-end g c =
    let fits = within_bytes g.T.AsULE.unpack g.T.AsULE.WIDTH c.args.bytes.now c.args.end g.met.T.AsULE.some_width c.requires.packed c.requires.within in
    rw c.WIDTH.ensures (sym (length-take-le (c.args.end * g.T.AsULE.WIDTH) c.args.bytes.now fits))

pub returns-clause-packed : goal.returns-clause-packed
returns-clause-packed g c =
    rw c.WIDTH.ensures (IsPacked-front g.T.AsULE.unpack g.T.AsULE.WIDTH c.args.bytes.now c.args.end g.met.T.AsULE.some_width c.requires.packed c.requires.within)

pub returns-clause-values : goal.returns-clause-values
returns-clause-values g c =
    rw c.WIDTH.ensures (take-values_of g.T.AsULE.unpack g.T.AsULE.WIDTH c.args.bytes.now c.args.end g.met.T.AsULE.some_width c.requires.packed c.requires.within)
