use Rattle.std.proofs.Common.{◌≡◌, ◌∙◌, ap, [], refl, rules, not, Bool}
use Rattle.icu_collections.proofs.CallerLemmas.{holds-nil}
use Rattle.icu_collections.specs.CodePointInversionList.{either, holds}
use Rattle.examples.proofs.sets.neither.Goals as goal

pub returns : goal.returns
returns c = λ n l.
    let start : c.new-builder.result ≡ [] = search rules in
    let one : holds c.add_set.new.self n ≡ holds c.args.first.now n =
    c.in_ok-add_set.ensures.ok n l ∙ rw (start, holds-nil n) refl in
    let two : holds c.add_set-2.new.self n ≡ either (holds c.add_set.new.self n) (holds c.args.second.now n) =
    c.in_ok-add_set-2.ensures.ok n l in
    let changed : holds c.complement.new.self n ≡ not (holds c.add_set-2.new.self n) =
    c.in_ok-complement.ensures.ok n l in
    let made : c.in_ok-made.made ≡ c.complement.new.self = search rules in
    rw made (changed ∙ ap not (two ∙ ap (λ (b : Bool). either b (holds c.args.second.now n)) one))
