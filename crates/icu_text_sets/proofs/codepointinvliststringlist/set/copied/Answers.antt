use Rattle.std.proofs.Common.{◌∙◌, ◌++◌, List, ℕ, [], ◌∷◌, ap, refl, string_bytes}
use Rattle.std.proofs.lemmas.List.{map-append}
use Rattle.icu_text_sets.specs.TextSet.{texts_of}
use Rattle.icu_text_sets.proofs.Copies.{copy_step, copy_end}
use Rattle.icu_text_sets.proofs.codepointinvliststringlist.set.copied.Goals as goal

pub loop-string-preserved : goal.loop-string-preserved
loop-string-preserved c =
    copy_step texts_of (λ s. string_bytes s) (λ x xs. refl) c.args.strings.now c.loop-string.string-index c.string-item.result
    (texts_of c.loop-string.copies.items) (texts_of c.push.new.self.items) _
    c.loop-string-test.true c.string-item.is c.loop-string.invariant
    (ap texts_of c.in_ok-push.ensures.items ∙ map-append (λ s. string_bytes s) c.loop-string.copies.items (c.in_ok-from_str.field-0 ∷ [])
    ∙ ap (λ (t : List ℕ). texts_of c.loop-string.copies.items ++ t ∷ []) (c.in_ok-from_str.ensures.ok ∙ c.as_str.ensures.value))

pub returns : goal.returns
returns c = copy_end texts_of refl c.args.strings.now c.loop-string.string-index (texts_of c.loop-string.copies.items) _
    c.loop-string-test.false c.loop-string.invariant
