-- Reading in steps, which stops at the first fault.
use Rattle.std.specs.Prelude.{ℕ, ◌+◌, List, [], ◌∷◌, Result, Ok, Err}

-- The next step, given the result of the one before, or the fault of the one before.
abbrev pub and_then : {A B F : Type 0} → Result A F → (A → Result B F) → Result B F
and_then (Ok x) next = next x
and_then (Err e) next = Err e

-- One result, followed by the others, or the first fault.
abbrev pub before : {A F : Type 0} → Result A F → Result (List A) F → Result (List A) F
before (Ok x) (Ok xs) = Ok (x ∷ xs)
before (Ok x) (Err e) = Err e
before (Err e) others = Err e

-- The results of reading each item, the first of which has index i, or the first fault.
unfoldable pub read_from : {A B F : Type 0} → (ℕ → A → Result B F) → ℕ → List A → Result (List B) F
read_from read i [] = Ok []
read_from read i (x ∷ xs) = before (read i x) (read_from read (i + 1) xs)
