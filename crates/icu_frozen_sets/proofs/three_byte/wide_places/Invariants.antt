use Rattle.std.proofs.Common.{◌≡◌, ℕ, ◌<◌, get_or, length}
use Rattle.icu_frozen_sets.specs.Inside.ThreeByte.{wide_place}
use Rattle.icu_frozen_sets.proofs.three_byte.wide_places.Given as goal

abbrev pub invariant-loop-block : goal.invariant-loop-block
invariant-loop-block l = record {
  all : length l.places ≡ 64;
  wide : (b : ℕ) → b < l.block → get_or l.places b 0 ≡ wide_place l.table b;
}
