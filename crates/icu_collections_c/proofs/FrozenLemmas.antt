-- The words of a frozen set in the caller's buffer.
use Rattle.std.proofs.Common.{◌≡◌, refl, ℕ, ◌≤◌, List, length, arith, inl, to_z, w64}
use Rattle.std.proofs.lemmas.Int.{to_z_pos}
use Rattle.icu_collections_c.specs.Building.{written_whole}
use Rattle.icu_frozen_sets.specs.FrozenWords.{IsFrozenOf}
use Rattle.icu_collections_c.specs.Frozen.{AnswersFrozen}

pub answers_frozen : (ends table old new : List ℕ) (n : ℕ) → IsFrozenOf ends table → n ≡ length table → new ≡ written_whole table old
    → AnswersFrozen ends old new (to_z w64 n)
answers_frozen ends table old new n frozen count buffer =
    let most = frozen.most in
    rw (to_z_pos w64 n (omega arith))
    (inl (n, refl, frozen.valid, record { table = table; frozen = frozen; count = count; buffer = buffer }))
