use Rattle.std.proofs.Common.{◌≡◌, refl, sym, subst, Bool, inl, inr, arith}
use Rattle.icu_collections_c.specs.TextSets.{IsLongestMember, IsTextOf}
use Rattle.icu_collections_c.specs.TextSpans.{IsStep}
use Rattle.icu_collections_c.proofs.text_spans.step_size.Goals as goal

pub returns-then-longest-gt0-clause-set : goal.returns-then-longest-gt0-clause-set
returns-then-longest-gt0-clause-set c = λ set s.
    let longest = c.longest_member-longest in
    subst (λ (h : Bool). IsStep (IsTextOf set) h c.args.bytes.now 0) (sym c.if-held.false)
    (inr (longest.result, c.if-longest-gt0.true, longest.ensures.set set s, refl))

pub returns-clause-set : goal.returns-clause-set
returns-clause-set c = λ set s.
    let longest = c.longest_member-longest in
    let none : longest.result ≡ 0 = omega (arith, c.if-longest-gt0.false) in
    subst (λ (h : Bool). IsStep (IsTextOf set) h c.args.bytes.now c.first_size.result) (sym c.if-held.false)
    (inl (subst (IsLongestMember (IsTextOf set) c.args.bytes.now) none (longest.ensures.set set s), c.first_size.ensures))
