use Rattle.std.proofs.Common.{◌≡◌, ◌∙◌, ap, [], refl, rules, sym, not, Bool}
use Rattle.icu_collections.proofs.CallerLemmas.{holds-nil}
use Rattle.icu_collections.specs.CodePointInversionList.{both, holds}
use Rattle.examples.proofs.sets.outside_both.Goals as goal

pub returns : goal.returns
returns c = λ n l.
    let start : c.new-builder.result ≡ [] = search rules in
    let first : holds c.in_ok-one.one n ≡ not (holds c.args.first.now n) = c.in_ok-one.ensures n l in
    let second : holds c.in_ok-other.other n ≡ not (holds c.args.second.now n) = c.in_ok-other.ensures n l in
    let added : holds c.add_set.new.self n ≡ holds c.in_ok-one.one n =
    c.in_ok-add_set.ensures.ok n l ∙ rw (start, holds-nil n) refl in
    let kept : holds c.retain_set.new.self n ≡ both (holds c.add_set.new.self n) (holds c.in_ok-other.other n) =
    c.in_ok-retain_set.ensures.ok n l in
    let made : c.in_ok-made.made ≡ c.retain_set.new.self = search rules in
    rw (made, sym first, sym second) (kept ∙ ap (λ (b : Bool). both b (holds c.in_ok-other.other n)) added)
