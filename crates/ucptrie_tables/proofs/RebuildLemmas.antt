-- The values of a map after the write of a range.
use Rattle.std.proofs.Common.{◌≡◌, ℕ, ◌<◌, ◌≤◌, true, false, nat_le, [], ◌∷◌, refl, arith}
use Rattle.std.proofs.lemmas.Bool.Decides.{nat_tests}
use Rattle.std.specs.Range.{range_inclusive_start, range_inclusive_end}
use Rattle.std.specs.declared.ops.RangeInclusive.{RangeInclusive}
use Rattle.icu_trie_builder.specs.Writes.{value_after}
use Rattle.icu_trie_builder.specs.declared.writes.Write.TheVariants.{Range}

module _ (r : RangeInclusive ℕ) (v old : ℕ) (ordered : range_inclusive_start r ≤ range_inclusive_end r)
    (within : range_inclusive_end r < 0x110000) where
  -- A code point of the range has the value.
  pub value_after-inside : (u : ℕ) → range_inclusive_start r ≤ u → u ≤ range_inclusive_end r → value_after (Range r v ∷ []) old u ≡ v
  value_after-inside u low high =
      let accepted : nat_le (range_inclusive_start r) (range_inclusive_end r) ≡ true = grind (arith, nat_tests) in
      let starts : nat_le (range_inclusive_start r) 0x10FFFF ≡ true = grind (arith, nat_tests) in
      let from : nat_le (range_inclusive_start r) u ≡ true = grind (arith, nat_tests) in
      let to : nat_le u (range_inclusive_end r) ≡ true = grind (arith, nat_tests) in
      rw (accepted, starts, from, to) refl

  -- A code point below the range keeps its value.
  pub value_after-below : (u : ℕ) → u < range_inclusive_start r → value_after (Range r v ∷ []) old u ≡ old
  value_after-below u below =
      let accepted : nat_le (range_inclusive_start r) (range_inclusive_end r) ≡ true = grind (arith, nat_tests) in
      let starts : nat_le (range_inclusive_start r) 0x10FFFF ≡ true = grind (arith, nat_tests) in
      let from : nat_le (range_inclusive_start r) u ≡ false = grind (arith, nat_tests) in
      rw (accepted, starts, from) refl
