use Rattle.std.proofs.Common.{◌≡◌, ◌∙◌, ◌++◌, List, ℕ, [], ◌∷◌, sym, ap, refl, length, arith, encode_utf8}
use Rattle.std.specs.Str.{chars}
use Rattle.std.proofs.lemmas.Str.{chars-nil, chars_past_char, IsUtf8-past_char}
use Rattle.icu_text_sets.specs.TextSet.{only_of}
use Rattle.icu_text_sets.proofs.codepointinvliststringlist.set.only_char.Goals as goal

no_more : (rest : List ℕ) → length rest ≡ 0 → rest ≡ []
no_more [] h = refl
no_more (b ∷ rest) h = absurd (omega arith)

pub returns-in-None-clause-only : goal.returns-in-None-clause-only
returns-in-None-clause-only c =
    let e : c.args.text.now ≡ encode_utf8 c.in_ok-first.first ++ c.next.new.self.rest.now =
    cc (c.chars-chars.ensures.rest, c.in_ok-first.ensures.steps.0) in
    let first = chars_past_char c.args.text.now c.next.new.self.rest.now c.in_ok-first.first c.utf8.text e in
    let rest = ap chars (no_more c.next.new.self.rest.now c.in-None.ensures.steps.0.0) ∙ chars-nil in
    sym (ap only_of (first ∙ ap (λ (cs : List ℕ). c.in_ok-first.first ∷ cs) rest))

pub returns-in-Some-clause-only : goal.returns-in-Some-clause-only
returns-in-Some-clause-only c =
    let e : c.args.text.now ≡ encode_utf8 c.in_ok-first.first ++ c.next.new.self.rest.now =
    cc (c.chars-chars.ensures.rest, c.in_ok-first.ensures.steps.0) in
    let first = chars_past_char c.args.text.now c.next.new.self.rest.now c.in_ok-first.first c.utf8.text e in
    let utf8 = IsUtf8-past_char c.args.text.now c.next.new.self.rest.now c.in_ok-first.first c.utf8.text e in
    let second = chars_past_char c.next.new.self.rest.now c.next-2.new.self.rest.now c.in-Some.field-0 utf8 c.in-Some.ensures.steps.0 in
    sym (ap only_of (first ∙ ap (λ (cs : List ℕ). c.in_ok-first.first ∷ cs) second))
