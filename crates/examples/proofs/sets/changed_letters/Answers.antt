use Rattle.std.proofs.Common.{◌≡◌, ◌∙◌, ap, [], refl, rules, Bool}
use Rattle.icu_collections.proofs.CallerLemmas.{holds-nil}
use Rattle.icu_collections.specs.CodePointInversionList.{between, holds, one_of}
use Rattle.examples.proofs.sets.changed_letters.Goals as goal

pub returns : goal.returns
returns c = λ n l.
    let start : c.new-builder.result ≡ [] = search rules in
    let added : holds c.add_set.new.self n ≡ holds c.args.set.now n =
    c.in_ok-add_set.ensures.ok n l ∙ rw (start, holds-nil n) refl in
    let changed : holds c.complement_range.new.self n
    ≡ one_of (holds c.add_set.new.self n) (between 97 123 n) =
    c.in_ok-complement_range.ensures.ok n l
    ∙ rw (c.new.ensures.start, c.new.ensures.end, c.new.ensures.exhausted) refl in
    let made : c.in_ok-changed.changed ≡ c.complement_range.new.self = search rules in
    rw made (changed ∙ ap (λ (b : Bool). one_of b (between 97 123 n)) added)
