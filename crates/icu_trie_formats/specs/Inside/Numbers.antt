-- The numbers by which values are written.
use Rattle.std.specs.Prelude.{◌≡◌, ℕ, ◌<◌, ◌^◌, Option, Some}

-- The number of the value fits in 32 bits, and the value is read back from it.
abbrev pub IsGivenBack : {T : Type 0} → (T → ℕ) → (ℕ → Option T) → T → Type 0
IsGivenBack number_of_value of_number x =
    (number_of_value x < 2 ^ 32) × (of_number (number_of_value x) ≡ Some x)
