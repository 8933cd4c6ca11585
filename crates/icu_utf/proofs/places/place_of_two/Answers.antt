use Rattle.std.proofs.Common.{ℕ, ◌<◌, length, subst, Some, arith, rules}
use Rattle.icu_utf.specs.Utf8.{IsFirstPart}
use Rattle.icu_utf.proofs.TextLemmas.{two_in_text}
use Rattle.icu_utf.proofs.places.place_of_two.Goals as goal

pub overflow_sub-first : goal.overflow_sub-first
overflow_sub-first c =
    omega (arith, c.from-first.ensures, (two_in_text c.args.text.now c.requires.text c.requires.some c.requires.from c.requires.to).0)

pub bounds-text-1 : goal.bounds-text-1
bounds-text-1 c =
    let long : 1 < length c.args.text.now = (two_in_text c.args.text.now c.requires.text c.requires.some c.requires.from c.requires.to).1 in
    search rules

pub overflow_sub-second : goal.overflow_sub-second
overflow_sub-second c =
    let six = (two_in_text c.args.text.now c.requires.text c.requires.some c.requires.from c.requires.to).2 in
    omega (arith, c.from-second.ensures, six.0)

pub returns-clause-place : goal.returns-clause-place
returns-clause-place c =
    let six = (two_in_text c.args.text.now c.requires.text c.requires.some c.requires.from c.requires.to).2 in
    omega (arith, c.from-second.ensures, six.1)

pub returns-clause-part : goal.returns-clause-part
returns-clause-part c =
    let text = c.args.text.now in
    subst (λ (n : ℕ). IsFirstPart text (Some n) 2) (omega (arith, c.from-first.ensures, c.from-second.ensures))
    (two_in_text text c.requires.text c.requires.some c.requires.from c.requires.to).3
