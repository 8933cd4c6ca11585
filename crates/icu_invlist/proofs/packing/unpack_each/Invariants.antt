-- What is unpacked and what is left are all boundaries.
use Rattle.std.proofs.Common.{◌≡◌, ◌+◌, ◌/◌, ◌++◌, take, length}
use Rattle.icu_invlist.specs.Inside.StillGiven.{ends_in}
use Rattle.icu_invlist.proofs.packing.unpack_each.Given as goal

abbrev pub invariant-loop-three : goal.invariant-loop-three
invariant-loop-three l = record {
  len : length l.out ≡ length l.bytes / 3;
  at : l.at + length l.rest / 3 ≡ length l.bytes / 3;
  items : take l.at l.out ++ ends_in l.rest ≡ ends_in l.bytes;
}

abbrev pub decreases-loop-three : goal.decreases-loop-three
decreases-loop-three l = length l.rest
