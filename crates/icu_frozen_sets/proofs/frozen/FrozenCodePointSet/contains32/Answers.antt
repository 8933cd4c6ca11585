use Rattle.std.proofs.Common.{◌∙◌, ℕ, ap, arith}
use Rattle.std.proofs.lemmas.Bool.{and_left, le-ltb}
use Rattle.icu_invlist.specs.InversionList.{holds}
use Rattle.icu_frozen_sets.proofs.FrozenWordLemmas.{held_in}
use Rattle.icu_frozen_sets.proofs.frozen.FrozenCodePointSet.contains32.Goals as goal

pub returns-then-c-lt65536-clause-held : goal.returns-then-c-lt65536-clause-held
returns-then-c-lt65536-clause-held c = c.contains_bmp.ensures ∙ ap (λ (n : ℕ). holds c.args.self.now n) (omega arith)

pub returns-clause-held : goal.returns-clause-held
returns-clause-held c =
    let s = c.self.inside in
    rw (← c.self.view_is) ((rw (c.deref.ensures.value) at c.contains_by.ensures) ∙ held_in s.set s.words.items c.self.invariant.frozen c.args.c)

pub returns-clause-far : goal.returns-clause-far
returns-clause-far c = λ l. c.contains_by.ensures ∙ and_left _ _ (le-ltb c.args.c 0x110000 l)
