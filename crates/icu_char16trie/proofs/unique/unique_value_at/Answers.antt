use Rattle.std.proofs.lemmas.Option.{none-some}
use Rattle.icu_char16trie.proofs.unique.unique_value_at.Goals as goal

pub returns-in_default : goal.returns-in_default
returns-in_default c = λ v. (λ e. absurd (none-some v e), λ h. absurd (c.in_default.ensures v h))

pub returns : goal.returns
returns c = λ v. (
  λ e. (c.in-Some.ensures.same v).1 ((c.value_of_wanted.ensures v).0 e),
  λ h. (c.value_of_wanted.ensures v).1 ((c.in-Some.ensures.same v).0 h),
)
