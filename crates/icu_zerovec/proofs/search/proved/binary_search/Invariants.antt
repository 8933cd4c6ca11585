-- Some value is left, and those after the rest are greater.
use Rattle.std.proofs.Common.{length, ◌+◌, ◌<◌, ◌≤◌}
use Rattle.icu_zerovec.specs.Cells.{values_of}
use Rattle.icu_zerovec.specs.Inside.Searches.{IsNarrowed}
use Rattle.icu_zerovec.proofs.search.proved.binary_search.Given as goal

abbrev pub invariant-loop-size : goal.invariant-loop-size
invariant-loop-size g l = record {
  some : 0 < l.size;
  inside : l.low + l.size ≤ length (values_of g.T.AsULE.unpack g.T.AsULE.WIDTH l.bytes);
  left : IsNarrowed (λ y. g.T.Ord.cmp y l.x) (values_of g.T.AsULE.unpack g.T.AsULE.WIDTH l.bytes) l.low (l.low + l.size);
}

abbrev pub decreases-loop-size : goal.decreases-loop-size
decreases-loop-size g l = l.size
