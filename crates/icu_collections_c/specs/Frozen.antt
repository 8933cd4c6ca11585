-- Frozen sets in the caller's 64-bit words, in the form of icu_frozen_sets.
use Rattle.std.specs.Prelude.{◌≡◌, ◌⊎◌, ℕ, ℤ, pos, List, length}
use Rattle.icu_invlist.specs.InversionList.{IsValid}
use Rattle.icu_frozen_sets.specs.FrozenWords.{IsFrozenOf}
use Rattle.icu_collections_c.specs.Building.{written_whole}
use Rattle.icu_collections_c.specs.Status.{error_number}
use Rattle.icu_collections_c.specs.declared.error.Error.TheVariants.{NoMemory, InvalidSet}

-- n is the number of words of the frozen set, and the buffer holds them if all of them fit.
pub record HasFrozen (ends old new : List ℕ) (n : ℕ) : Type 0 where
  pub table : List ℕ
  pub frozen : IsFrozenOf ends table
  pub count : n ≡ length table
  pub buffer : new ≡ written_whole table old

-- The number of words of the frozen set with these boundaries. Otherwise `InvalidSet` if they are not
-- those of a set, `NoMemory` if an allocation failed; the buffer is then unchanged.
abbrev pub AnswersFrozen : List ℕ → List ℕ → List ℕ → ℤ → Type 0
AnswersFrozen ends old new returned =
    ((n : ℕ) × (returned ≡ pos n) × IsValid ends × HasFrozen ends old new n)
    ⊎ ((returned ≡ error_number InvalidSet) × ¬ (IsValid ends) × (new ≡ old))
    ⊎ ((returned ≡ error_number NoMemory) × IsValid ends × (new ≡ old))
