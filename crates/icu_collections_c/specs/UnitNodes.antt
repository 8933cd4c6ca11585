-- What comes after a position in a unit trie, as C sees it.
use Rattle.std.specs.Prelude.{◌≡◌, ◌⊎◌, ℕ, ℤ, pos, List, length}
use Rattle.icu_zerovec.specs.Buffers.{written}
use Rattle.icu_collections_c.specs.Status.{error_number}
use Rattle.icu_collections_c.specs.declared.error.Error.TheVariants.{NoMemory}

-- How many units with property P there are, and the buffer holds those that fit. Or `NoMemory` if
-- an allocation failed, and the buffer is unchanged.
abbrev pub AnswersUnitList : (List ℕ → Type 0) → List ℕ → List ℕ → ℤ → Type 0
AnswersUnitList P old new returned =
    ((us : List ℕ) × P us × (returned ≡ pos (length us)) × (new ≡ written us old))
    ⊎ ((returned ≡ error_number NoMemory) × (new ≡ old))

-- 1 if a value has property P, and it is stored. 0 if no value has it, or `NoMemory` if an
-- allocation failed; the old value is then unchanged.
abbrev pub AnswersOneValue : (ℤ → Type 0) → ℤ → ℤ → ℤ → Type 0
AnswersOneValue P old new returned =
    ((returned ≡ pos 1) × P new)
    ⊎ ((returned ≡ pos 0) × ((v : ℤ) → ¬ (P v)) × (new ≡ old))
    ⊎ ((returned ≡ error_number NoMemory) × (new ≡ old))
