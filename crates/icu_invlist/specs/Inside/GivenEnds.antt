-- What the reader of a set in JSON returns.
use Rattle.std.specs.Prelude.{◌≡◌, ℕ, List, Result, Ok, Err}
use Rattle.std.specs.Global.{Vec}
use Rattle.icu_invlist.specs.declared.codepointinvlist.error.SetJsonError.{SetJsonError}
use Rattle.icu_invlist.specs.declared.codepointinvlist.error.SetJsonError.TheVariants.{NotAnArray, NotAString, NotARange, InvalidSet, Memory}

-- The boundaries that were read, or the first fault. `Memory` is possible in any case.
abbrev pub GivesEnds : Result (Vec ℕ) SetJsonError → Result (List ℕ) SetJsonError → Type 0
GivesEnds (Ok v) read = read ≡ Ok v.items
GivesEnds (Err Memory) read = Unit {0}
GivesEnds (Err NotAnArray) read = read ≡ Err NotAnArray
GivesEnds (Err (NotAString i)) read = read ≡ Err (NotAString i)
GivesEnds (Err (NotARange i)) read = read ≡ Err (NotARange i)
GivesEnds (Err InvalidSet) read = ⊥
