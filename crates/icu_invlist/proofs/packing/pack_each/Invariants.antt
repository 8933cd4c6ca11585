-- What is packed and what is left are all boundaries.
use Rattle.std.proofs.Common.{◌≡◌, ◌*◌, ◌++◌, take, drop, length}
use Rattle.std.specs.List.{flat_map}
use Rattle.icu_zerovec.specs.PackedBytes.{low_bytes}
use Rattle.icu_invlist.proofs.packing.pack_each.Given as goal

abbrev pub invariant-loop-end : goal.invariant-loop-end
invariant-loop-end l = record {
  len : length l.out ≡ length l.ends * 3;
  at : l.at ≡ l.end-index * 3;
  items : take l.at l.out ++ flat_map (low_bytes 3) (drop l.end-index l.ends) ≡ flat_map (low_bytes 3) l.ends;
}
