-- Joining ranges, step by step.
use Rattle.std.proofs.Common.{◌≡◌, ℕ, List, ◌∷◌, Bool, true, false, refl, sym}
use Rattle.std.specs.Range.{range_inclusive_start, range_inclusive_end, range_inclusive_exhausted}
use Rattle.std.specs.declared.ops.RangeInclusive.{RangeInclusive}
use Rattle.icu_trie_core.specs.declared.range.CodePointMapRange.{CodePointMapRange}
use Rattle.icu_trie_core.specs.Range.{first_of, last_of}
use Rattle.icu_trie.specs.JoinedRanges.{continues, joined_ranges_from}

module _ {A : Type 0} (eq : A → A → Bool) where
  -- A range with the bounds of the merged one can replace it.
  pub joined_ranges_from-continued : (r x : CodePointMapRange A) (q : RangeInclusive ℕ) (rest : List (CodePointMapRange A))
      → continues eq r x ≡ true
      → range_inclusive_start q ≡ first_of r → range_inclusive_end q ≡ last_of x → range_inclusive_exhausted q ≡ false
      → joined_ranges_from eq r (x ∷ rest) ≡ joined_ranges_from eq (record { range = q; value = r.value }) rest
  joined_ranges_from-continued r x q rest on start end fresh = rw (on, sym start, sym end, sym fresh) refl
