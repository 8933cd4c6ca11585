-- There are no more values than bytes.
use Rattle.std.proofs.Common.{length, arith}
use Rattle.std.proofs.Math.Nat.{div-le_self}
use Rattle.icu_zerovec.proofs.CellsLemmas.{length-values_of}
use Rattle.icu_zerovec.proofs.iter.Iter.from_packed.Goals as goal

pub returns-clause-bound : goal.returns-clause-bound
returns-clause-bound g c =
    omega (
      arith,
      length-values_of g.T.AsULE.unpack g.T.AsULE.WIDTH c.args.bytes.now c.requires,
      div-le_self (length c.args.bytes.now) g.T.AsULE.WIDTH,
    )
