use Rattle.icu_zerovec.specs.Slice.{slice_values}
use Rattle.std.proofs.Common.{◌≡◌, ◌↔◌, ℤ, Some}
use Rattle.std.proofs.lemmas.Result.{IfOk-weaker}
use Rattle.icu_char16trie.specs.OneValue.{StandsForOneValue}
use Rattle.icu_char16trie.proofs.ValueLemmas.{value_after}
use Rattle.icu_char16trie.proofs.cursor.Char16TrieCursor.unique_value.Goals as goal

pub returns-clause-value : goal.returns-clause-value
returns-clause-value c =
    IfOk-weaker c.unique_value_at.result _ _
    (λ told (exact : (v : ℤ) → (told ≡ Some v) ↔ StandsForOneValue (slice_values c.self.inside.units) c.self.inside.place v) m w v after.
    value_after _ _ _ told v (exact v) (rw (← c.self.view_is) at after))
    c.unique_value_at.ensures

pub returns-clause-exact : goal.returns-clause-exact
returns-clause-exact c = rw (← c.self.view_is) c.unique_value_at.ensures
