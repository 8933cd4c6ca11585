-- The hasher was fed the number of values and the first i of them.
use Rattle.std.proofs.Common.{◌≡◌, ◌++◌, length, take}
use Rattle.std.specs.List.{flat_map, fold}
use Rattle.std.specs.Hash as fed
use Rattle.icu_zerovec.specs.Cells.{values_of, one_write}
use Rattle.icu_zerovec.proofs.cells.feed.Given as goal

abbrev pub invariant-loop-i : goal.invariant-loop-i
invariant-loop-i g l = record {
  fed : l.state ≡ fold g.H.Hasher.write l.fn.state
      (fed.usize (length (values_of g.T.AsULE.unpack g.T.AsULE.WIDTH l.bytes)) ++ flat_map (one_write g.T.AsULE.pack)
      (take l.i (values_of g.T.AsULE.unpack g.T.AsULE.WIDTH l.bytes)));
}
