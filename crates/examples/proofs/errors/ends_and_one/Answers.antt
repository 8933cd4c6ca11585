use Rattle.std.proofs.Common.{◌≡◌, ◌==◌, ◌∙◌, ap, [], refl, rules, sym, Bool}
use Rattle.icu_collections.proofs.CallerLemmas.{holds-nil}
use Rattle.icu_collections.specs.CodePointInversionList.{either, holds}
use Rattle.examples.proofs.errors.ends_and_one.Goals as goal

pub returns : goal.returns
returns c = λ n l.
    let start : c.new-builder.result ≡ [] = search rules in
    let added : holds c.add_set.new.self n ≡ holds c.in_ok-set.set n =
    c.in_ok-add_set.ensures.ok n l ∙ rw (start, holds-nil n) refl in
    let more : holds c.add32.new.self n ≡ either (holds c.add_set.new.self n) (n == c.args.c) =
    c.in_ok-add32.ensures.ok n l in
    let made : c.in_ok-made.made ≡ c.add32.new.self = search rules in
    rw (made, sym c.in_ok-set.ensures.ok.0) (more ∙ ap (λ (b : Bool). either b (n == c.args.c)) added)
