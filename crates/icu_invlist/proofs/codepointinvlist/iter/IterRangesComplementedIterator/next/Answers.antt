use Rattle.std.proofs.Common.{◌≡◌, ◌∙◌, sym, ap, ℕ, List, ◌∷◌, ◌-◌}
use Rattle.icu_invlist.specs.InversionList.{IsValid, ranges_of}
use Rattle.icu_invlist.specs.Inside.StillGiven.{gaps_left}
use Rattle.icu_invlist.proofs.Complements.{next_gap}
use Rattle.icu_invlist.proofs.MemberLemmas.{same_range}
use Rattle.icu_invlist.proofs.codepointinvlist.iter.IterRangesComplementedIterator.next.Goals as goal

gap : (c : goal.After-new-in-Some) → IsValid (gaps_left c.start_of_gap-self-inside.result c.next-in-Some.new.self)
    × (gaps_left c.self.inside.start c.self.inside.ends ≡ c.in_ok-start.start ∷ c.in-Some.end ∷ gaps_left c.start_of_gap-self-inside.result
    c.next-in-Some.new.self)
gap c = next_gap c.in_ok-start.start c.in-Some.end c.self.inside.ends c.next.new.self c.next-in-Some.new.self c.self.inside.start
    c.next-in-Some.result
    c.start_of_gap-self-inside.result c.self.invariant c.in_ok-start.was c.in-Some.ensures.steps c.next-in-Some.ensures.steps
    c.start_of_gap-self-inside.ensures

pub invariant_of-self-in-Some : goal.invariant_of-self-in-Some
invariant_of-self-in-Some c = (gap c).0

pub returns-in-Some-clause-steps : goal.returns-in-Some-clause-steps
returns-in-Some-clause-steps c = rw (← c.self.view_is) (ap (λ (xs : List ℕ). ranges_of xs) (gap c).1
    ∙ ap (λ r. r ∷ ranges_of (gaps_left c.start_of_gap-self-inside.result c.next-in-Some.new.self))
    (sym (same_range c.new-in-Some.result _ _ c.new-in-Some.ensures.start (c.new-in-Some.ensures.end ∙ ap (λ (n : ℕ). n - 1) c.from.ensures)
    c.new-in-Some.ensures.exhausted)))
