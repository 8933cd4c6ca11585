use Rattle.std.proofs.Common.{ℕ, ◌<◌, length, subst, Some, arith, rules}
use Rattle.icu_utf.specs.Utf8.{IsFirstPart}
use Rattle.icu_utf.proofs.TextLemmas.{four_in_text}
use Rattle.icu_utf.proofs.places.number_of_four.Goals as goal

pub bounds-text-1 : goal.bounds-text-1
bounds-text-1 c =
    let long : 3 < length c.args.text.now = (four_in_text c.args.text.now c.requires.text c.requires.some c.requires.from).0 in
    search rules

pub bounds-text-2 : goal.bounds-text-2
bounds-text-2 c =
    let long : 3 < length c.args.text.now = (four_in_text c.args.text.now c.requires.text c.requires.some c.requires.from).0 in
    search rules

pub bounds-text-3 : goal.bounds-text-3
bounds-text-3 c =
    let long : 3 < length c.args.text.now = (four_in_text c.args.text.now c.requires.text c.requires.some c.requires.from).0 in
    search rules

pub overflow_sub-second : goal.overflow_sub-second
overflow_sub-second c =
    let six = (four_in_text c.args.text.now c.requires.text c.requires.some c.requires.from).2 in
    omega (arith, c.from-second.ensures, six.0)

pub overflow_sub-third : goal.overflow_sub-third
overflow_sub-third c =
    let six = (four_in_text c.args.text.now c.requires.text c.requires.some c.requires.from).3 in
    omega (arith, c.from-third.ensures, six.0)

pub overflow_sub-fourth : goal.overflow_sub-fourth
overflow_sub-fourth c =
    let six = (four_in_text c.args.text.now c.requires.text c.requires.some c.requires.from).4 in
    omega (arith, c.from-fourth.ensures, six.0)

pub returns : goal.returns
returns c =
    let text = c.args.text.now in
    subst (λ (n : ℕ). IsFirstPart text (Some n) 4)
    (omega (arith, c.from-first.ensures, c.from-second.ensures, c.from-third.ensures, c.from-fourth.ensures))
    (four_in_text text c.requires.text c.requires.some c.requires.from).5
