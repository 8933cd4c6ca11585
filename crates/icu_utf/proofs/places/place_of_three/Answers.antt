use Rattle.std.proofs.Common.{ℕ, ◌<◌, length, subst, Some, arith, rules}
use Rattle.icu_utf.specs.Utf8.{IsFirstPart}
use Rattle.icu_utf.proofs.TextLemmas.{three_in_text}
use Rattle.icu_utf.proofs.places.place_of_three.Goals as goal

pub bounds-text-1 : goal.bounds-text-1
bounds-text-1 c =
    let long : 2 < length c.args.text.now =
    (three_in_text c.args.text.now c.requires.text c.requires.some c.requires.from c.requires.to).0 in
    search rules

pub overflow_sub-second : goal.overflow_sub-second
overflow_sub-second c =
    let six = (three_in_text c.args.text.now c.requires.text c.requires.some c.requires.from c.requires.to).1 in
    omega (arith, c.from-second.ensures, six.0)

pub bounds-text-2 : goal.bounds-text-2
bounds-text-2 c =
    let long : 2 < length c.args.text.now =
    (three_in_text c.args.text.now c.requires.text c.requires.some c.requires.from c.requires.to).0 in
    search rules

pub overflow_sub-third : goal.overflow_sub-third
overflow_sub-third c =
    let six = (three_in_text c.args.text.now c.requires.text c.requires.some c.requires.from c.requires.to).2 in
    omega (arith, c.from-third.ensures, six.0)

pub returns-clause-block : goal.returns-clause-block
returns-clause-block c =
    let six = (three_in_text c.args.text.now c.requires.text c.requires.some c.requires.from c.requires.to).1 in
    omega (arith, c.from-first.ensures, c.from-second.ensures, six.1)

pub returns-clause-place : goal.returns-clause-place
returns-clause-place c =
    let six = (three_in_text c.args.text.now c.requires.text c.requires.some c.requires.from c.requires.to).2 in
    omega (arith, c.from-third.ensures, six.1)

pub returns-clause-part : goal.returns-clause-part
returns-clause-part c =
    let text = c.args.text.now in
    subst (λ (n : ℕ). IsFirstPart text (Some n) 3) (omega (arith, c.from-first.ensures, c.from-second.ensures, c.from-third.ensures))
    (three_in_text text c.requires.text c.requires.some c.requires.from c.requires.to).3
