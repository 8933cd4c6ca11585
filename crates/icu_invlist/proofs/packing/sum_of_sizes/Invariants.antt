-- What is added and what is left are the whole sum.
use Rattle.std.proofs.Common.{◌≡◌, ◌+◌, length}
use Rattle.icu_invlist.specs.Inside.PackedSets.{sum_of_sizes}
use Rattle.icu_invlist.specs.Inside.StillGiven.{ends_in, ArePackedEnds}
use Rattle.icu_invlist.proofs.packing.sum_of_sizes.Given as goal

abbrev pub invariant-loop-four : goal.invariant-loop-four
invariant-loop-four l = record {
  packed : ArePackedEnds l.rest;
  sum : l.sum + sum_of_sizes (ends_in l.rest) ≡ sum_of_sizes (ends_in l.bytes);
}

abbrev pub decreases-loop-four : goal.decreases-loop-four
decreases-loop-four l = length l.rest
