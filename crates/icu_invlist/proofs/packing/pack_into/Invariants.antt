-- What is packed and what is left are all boundaries.
use Rattle.std.proofs.Common.{◌≡◌, ◌+◌, ◌*◌, ◌^◌, ◌<◌, ◌++◌, take, length}
use Rattle.std.specs.List.{All, flat_map}
use Rattle.icu_zerovec.specs.PackedBytes.{low_bytes}
use Rattle.icu_invlist.proofs.packing.pack_into.Given as goal

abbrev pub invariant-loop-eight : goal.invariant-loop-eight
invariant-loop-eight l = record {
  small : All (λ x. x < 2 ^ 24) l.rest;
  len : length l.out ≡ length l.ends * 3;
  at : l.at + length l.rest * 3 ≡ length l.ends * 3;
  items : take l.at l.out ++ flat_map (low_bytes 3) l.rest ≡ flat_map (low_bytes 3) l.ends;
}

abbrev pub decreases-loop-eight : goal.decreases-loop-eight
decreases-loop-eight l = length l.rest
