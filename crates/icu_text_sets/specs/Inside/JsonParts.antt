-- What the readers of the parts of a JSON object return.
use Rattle.std.specs.Prelude.{◌≡◌, ℕ, List, Option, Some, None, Result, Err}
use Rattle.icu_invlist.specs.declared.codepointinvlist.error.SetJsonError.{SetJsonError}
use Rattle.icu_invlist.specs.declared.codepointinvlist.error.SetJsonError.TheVariants.{NotAnArray, NotAString, NotARange, InvalidSet, Memory}
use Rattle.icu_text_sets.specs.TextSetJson.{JsonFault, no_set}

-- The fault that corresponds to an error of a set of code points. A failed allocation is not a
-- fault of the value.
abbrev pub set_fault_of : SetJsonError → Option JsonFault
set_fault_of Memory = None
set_fault_of NotAnArray = Some (no_set NotAnArray)
set_fault_of (NotAString i) = Some (no_set (NotAString i))
set_fault_of (NotARange i) = Some (no_set (NotARange i))
set_fault_of InvalidSet = Some (no_set InvalidSet)

-- The fault that the reader of the strings returns, if it returns one. A failed allocation is
-- possible in any case.
abbrev pub GivesTexts : Result (List (List ℕ)) JsonFault → Option JsonFault → Type 0
GivesTexts texts None = Unit {0}
GivesTexts texts (Some f) = texts ≡ Err f
