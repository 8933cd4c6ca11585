use Rattle.std.proofs.Common.{◌≡◌, ◌∙◌, ◌&&◌, Bool, true, false, ap, refl}
use Rattle.std.specs.Str.{is_utf8}
use Rattle.std.proofs.lemmas.Str.{IsUtf8-from_is_utf8, is_utf8-from_IsUtf8}
use Rattle.icu_text_sets.specs.TextSet.{member}
use Rattle.icu_text_sets.proofs.codepointinvliststringlist.set.CodePointInversionListAndStringList.contains_utf8.Goals as goal

refused : (b m : Bool) → (b ≡ true → ⊥) → false ≡ (b && m)
refused true m n = absurd (n refl)
refused false m n = refl

pub returns-in-Ok-clause-held : goal.returns-in-Ok-clause-held
returns-in-Ok-clause-held c =
    rw (is_utf8-from_IsUtf8 c.args.bytes.now c.in-Ok.ensures.cases.1)
    (c.contains_str.ensures ∙ ap (λ t. member c.args.self.now t) c.in-Ok.ensures.cases.0)

pub returns-in-Err-clause-held : goal.returns-in-Err-clause-held
returns-in-Err-clause-held c = refused (is_utf8 c.args.bytes.now) (member c.args.self.now c.args.bytes.now)
    (λ h. c.in-Err.ensures.cases.0 (IsUtf8-from_is_utf8 c.args.bytes.now h))

pub returns-in-Ok-clause-text : goal.returns-in-Ok-clause-text
returns-in-Ok-clause-text c = λ _. c.contains_str.ensures ∙ ap (λ t. member c.args.self.now t) c.in-Ok.ensures.cases.0

pub returns-in-Err-clause-text : goal.returns-in-Err-clause-text
returns-in-Err-clause-text c = λ utf8. absurd (c.in-Err.ensures.cases.0 utf8)
