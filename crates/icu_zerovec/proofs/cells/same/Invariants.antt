-- The values before i are equal.
use Rattle.std.proofs.Common.{◌≡◌, ℕ, ◌<◌, slice_get}
use Rattle.icu_zerovec.specs.Cells.{values_of}
use Rattle.icu_zerovec.proofs.cells.same.Given as goal

abbrev pub invariant-loop-i : goal.invariant-loop-i
invariant-loop-i g l = record {
  same : (j : ℕ) → j < l.i → slice_get (values_of g.T.AsULE.unpack g.T.AsULE.WIDTH l.a) j
      ≡ slice_get (values_of g.T.AsULE.unpack g.T.AsULE.WIDTH l.b) j;
}
