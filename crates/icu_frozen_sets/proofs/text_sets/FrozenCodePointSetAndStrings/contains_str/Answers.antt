use Rattle.std.proofs.Common.{◌≡◌, ◌∙◌, ◌++◌, ap, sym, encode_utf8, ℕ, List}
use Rattle.icu_invlist.specs.InversionList.{holds}
use Rattle.icu_text_sets.specs.TextSet.{TextSet, member_as}
use Rattle.icu_frozen_sets.proofs.OneCharacter.{only_char-of_one}
use Rattle.icu_frozen_sets.proofs.text_sets.FrozenCodePointSetAndStrings.contains_str.Goals as goal

pub returns-in-Some-None : goal.returns-in-Some-None
returns-in-Some-None c =
    let one = c.in-Some-None in
    let step : c.args.text.now ≡ encode_utf8 one.c ++ c.next.new.self.rest.now = sym c.chars-chars.ensures.rest ∙ one.ensures.steps.0 in
    let only = only_char-of_one c.args.text.now c.next.new.self.rest.now one.c c.utf8.text step one.ensures'.steps.0.0 in
    let ends = c.self.invariant ∙ ap (λ (s : TextSet). s.code_points) c.self.view_is in
    c.contains.ensures ∙ ap (λ (e : List ℕ). holds e one.c) ends ∙ sym (ap (member_as c.args.self.now c.args.text.now) only)
