-- The bytes are whole cells, and the cells before i are values.
use Rattle.std.proofs.Common.{◌≡◌, ℕ, ◌%◌, ◌<◌, length}
use Rattle.std.specs.Prelude.{IsSome}
use Rattle.icu_zerovec.specs.Cells.{cell}
use Rattle.icu_zerovec.proofs.cells.test.Given as goal

abbrev pub invariant-loop-i : goal.invariant-loop-i
invariant-loop-i g l = record {
  whole : length l.bytes % g.T.AsULE.WIDTH ≡ 0;
  valued : (j : ℕ) → j < l.i → IsSome (g.T.AsULE.unpack (cell g.T.AsULE.WIDTH l.bytes j));
}
