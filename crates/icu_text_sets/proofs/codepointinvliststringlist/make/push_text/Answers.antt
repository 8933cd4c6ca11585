use Rattle.std.proofs.Common.{◌∙◌, ◌++◌, ap, List, ℕ, [], ◌∷◌, string_bytes}
use Rattle.std.proofs.lemmas.List.{map-append}
use Rattle.icu_text_sets.specs.TextSet.{texts_of}
use Rattle.icu_text_sets.proofs.codepointinvliststringlist.make.push_text.Goals as goal

pub returns : goal.returns
returns c =
    ap texts_of c.in_ok-push.ensures.items ∙ map-append (λ s. string_bytes s) c.args.strings.now.items (c.in_ok-string.string ∷ [])
    ∙ ap (λ (t : List ℕ). texts_of c.args.strings.now.items ++ t ∷ []) c.in_ok-string.ensures.ok
