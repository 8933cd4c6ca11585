-- The return values of the functions that allocate or read texts: a count, or the number of the
-- error that says why there is none.
use Rattle.std.specs.Prelude.{◌≡◌, ◌⊎◌, ℕ, ℤ, pos, List, length}
use Rattle.icu_invlist.specs.InversionList.{IsValid}
use Rattle.icu_zerovec.specs.Buffers.{written}
use Rattle.icu_collections_c.specs.Status.{error_number}
use Rattle.icu_collections_c.specs.declared.error.Error.{Error}
use Rattle.icu_collections_c.specs.declared.error.Error.TheVariants.{NoMemory, InvalidSet, InvalidUtf8}

-- The buffer holds the boundaries of a set with property P, as many as fit. There are n of them.
pub record HasEnds (P : List ℕ → Type 0) (old new : List ℕ) (n : ℕ) : Type 0 where
  pub ends : List ℕ
  pub valid : IsValid ends
  pub set : P ends
  pub count : n ≡ length ends
  pub buffer : new ≡ written ends old

-- The number of boundaries of a set with property P. Or `NoMemory` if an allocation failed, and the
-- buffer is unchanged.
abbrev pub GivesEnds : (List ℕ → Type 0) → List ℕ → List ℕ → ℤ → Type 0
GivesEnds P old new returned =
    ((n : ℕ) × (returned ≡ pos n) × HasEnds P old new n)
    ⊎ ((returned ≡ error_number NoMemory) × (new ≡ old))

-- The same if the input is `sound`. If it is not: the error `fault`, and the buffer is unchanged.
abbrev pub AnswersEnds : Type 0 → Error → (List ℕ → Type 0) → List ℕ → List ℕ → ℤ → Type 0
AnswersEnds sound fault P old new returned =
    (sound × GivesEnds P old new returned)
    ⊎ (¬ sound × (returned ≡ error_number fault) × (new ≡ old))

-- The number of boundaries of a set with property P if the input is `sound`. If it is not: the error
-- `fault`, and the buffer is unchanged.
abbrev pub CountsEnds : Type 0 → Error → (List ℕ → Type 0) → List ℕ → List ℕ → ℤ → Type 0
CountsEnds sound fault P old new returned =
    (sound × ((n : ℕ) × (returned ≡ pos n) × HasEnds P old new n))
    ⊎ (¬ sound × (returned ≡ error_number fault) × (new ≡ old))

-- If the boundaries are those of a set: the number n. If they are not: `InvalidSet`.
abbrev pub CountsMembers : Type 0 → ℕ → ℤ → Type 0
CountsMembers is_set n returned = (is_set × (returned ≡ pos n)) ⊎ (¬ is_set × (returned ≡ error_number InvalidSet))

-- If the bytes are a `text`: the number of values, and the buffer holds as many of them as fit. If
-- they are not: `InvalidUtf8`, and the buffer is unchanged.
abbrev pub AnswersText : {T : Type 0} → Type 0 → List T → List T → List T → ℤ → Type 0
AnswersText text values old new returned =
    (text × (returned ≡ pos (length values)) × (new ≡ written values old))
    ⊎ (¬ text × (returned ≡ error_number InvalidUtf8) × (new ≡ old))
