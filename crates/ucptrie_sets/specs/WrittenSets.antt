-- Why a set is not written.
use Rattle.std.specs.Prelude.{◌≡◌, ℕ, List, ⊤}
use Rattle.icu_invlist_binary.specs.SerializedSet.{HasForm}
use Rattle.ucptrie_sets.specs.declared.error.SetWriteError.{SetWriteError}
use Rattle.ucptrie_sets.specs.declared.error.SetWriteError.TheVariants.{TooLong, Memory}
use Rattle.ucptrie_sets.specs.declared.written.SetForm.{SetForm}
use Rattle.ucptrie_sets.specs.declared.written.SetForm.TheVariants.{Icu}

-- Why a set is not written: ICU's serialized form has no room for its boundaries, which is only an
-- error in that form. No clause can say when an allocation fails.
abbrev pub IsWhyNotWritten : SetForm → List ℕ → SetWriteError → Type 0
IsWhyNotWritten form set TooLong = (form ≡ Icu) × (¬ (HasForm set))
IsWhyNotWritten form set Memory = ⊤
