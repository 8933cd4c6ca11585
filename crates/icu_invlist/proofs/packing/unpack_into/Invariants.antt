-- What is unpacked and what is left are all boundaries.
use Rattle.std.proofs.Common.{◌≡◌, ◌+◌, ◌/◌, ◌++◌, take, length}
use Rattle.icu_invlist.specs.Inside.StillGiven.{ends_in}
use Rattle.icu_invlist.proofs.packing.unpack_into.Given as goal

abbrev pub invariant-loop-eight : goal.invariant-loop-eight
invariant-loop-eight l = record {
  len : length l.out ≡ length l.bytes / 3;
  at : l.at + length l.rest / 3 ≡ length l.bytes / 3;
  items : take l.at l.out ++ ends_in l.rest ≡ ends_in l.bytes;
}

abbrev pub decreases-loop-eight : goal.decreases-loop-eight
decreases-loop-eight l = length l.rest
