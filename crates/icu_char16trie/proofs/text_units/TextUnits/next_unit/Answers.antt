use Rattle.std.proofs.Common.{◌∷◌, [], sym, ◌∙◌, arith}
use Rattle.std.proofs.lemmas.Str.{chars_past_char}
use Rattle.icu_char16trie.proofs.TextLemmas.{none_left, one_left, two_left}
use Rattle.icu_char16trie.proofs.text_units.TextUnits.next_unit.Goals as goal

pub returns-in_err-next-clause-unit : goal.returns-in_err-next-clause-unit
returns-in_err-next-clause-unit c =
    let steps = c.next.ensures.steps in
    let over = rw c.in_err-next.was at steps in
    rw c.from_residual.ensures
    (none_left c.args.self.now.second c.args.self.now.rest.now (λ x e. c.in_default.not-Some x (c.take.ensures.value ∙ e))
    (rw c.chars-chars.ensures.rest at over.0.0))

pub returns-then-c-lt65536-clause-unit : goal.returns-then-c-lt65536-clause-unit
returns-then-c-lt65536-clause-unit c =
    let some = c.in_ok-next.ensures.steps.0 in
    rw (c.from-c.ensures, c.as_str-self.ensures)
    (one_left c.args.self.now.second c.take.new.self c.args.self.now.rest.now _ c.in_ok-next.field-0
    (λ x e. c.in_default.not-Some x (c.take.ensures.value ∙ e)) c.take.ensures.after c.requires.utf8
    (sym c.chars-chars.ensures.rest ∙ some) (omega (arith, c.from-c.ensures, c.if-c-lt65536.true)))

pub returns-clause-unit : goal.returns-clause-unit
returns-clause-unit c =
    let some = c.in_ok-next.ensures.steps.0 in
    rw (c.from-c.ensures, c.as_str-self.ensures)
    (two_left c.args.self.now.second c.args.self.now.rest.now _ c.in_ok-next.field-0
    (λ x e. c.in_default.not-Some x (c.take.ensures.value ∙ e)) c.requires.utf8
    (sym c.chars-chars.ensures.rest ∙ some) (omega (arith, c.from-c.ensures, c.if-c-lt65536.false)))

pub returns-then-c-lt65536-clause-last : goal.returns-then-c-lt65536-clause-last
returns-then-c-lt65536-clause-last c =
    let some = c.in_ok-next.ensures.steps.0 in
    rw c.as_str-self.ensures
    (c.in_ok-next.field-0 ∷ [], chars_past_char c.args.self.now.rest.now _ c.in_ok-next.field-0 c.requires.utf8 (sym c.chars-chars.ensures.rest ∙ some))

pub returns-clause-last : goal.returns-clause-last
returns-clause-last c =
    let some = c.in_ok-next.ensures.steps.0 in
    rw c.as_str-self.ensures
    (c.in_ok-next.field-0 ∷ [], chars_past_char c.args.self.now.rest.now _ c.in_ok-next.field-0 c.requires.utf8 (sym c.chars-chars.ensures.rest ∙ some))
