use Rattle.std.proofs.Common.{◌≡◌, ◌∙◌, ◌<◌, sym, ap, ℕ, List, ◌∷◌}
use Rattle.std.specs.Prelude.{not}
use Rattle.icu_zerovec.specs.CodePoints.{code_point_limit}
use Rattle.icu_invlist.specs.InversionList.{AreApart, IsValid, complement_of, holds, in_ranges, ranges_of, toggle_back}
use Rattle.icu_invlist.specs.Inside.StillGiven.{gaps_left}
use Rattle.icu_invlist.proofs.MemberLemmas.{ranges_within}
use Rattle.icu_invlist.proofs.HeldRanges.{ranges_hold, ranges_apart}
use Rattle.icu_invlist.proofs.Complements.{complement_valid, complement-holds, gaps_from_zero, gaps_from_start}
use Rattle.icu_invlist.proofs.codepointinvlist.cpinvlist.CodePointInversionList.iter_ranges_complemented.Goals as goal

gaps_apart : (ends : List ℕ) → IsValid ends → AreApart (ranges_of (complement_of ends))
gaps_apart ends v = ranges_apart (complement_of ends) (complement_valid ends v)

gaps_hold : (ends : List ℕ) (n : ℕ) → IsValid ends → n < code_point_limit
    → in_ranges (ranges_of (complement_of ends)) n ≡ not (holds ends n)
gaps_hold ends n v h = ranges_hold (complement_of ends) n (complement_valid ends v) ∙ complement-holds ends n v h

from_zero : (c : goal.After-start_of_gap-start)
    → gaps_left c.start_of_gap-start.result c.next-then-contains32.new.self ≡ complement_of c.self.inside.ends
from_zero c = rw c.start_of_gap-start.ensures
    (gaps_from_zero c.self.inside.ends c.next.new.self c.next-then-contains32.new.self c.next.result c.next-then-contains32.result
    c.self.invariant.0
    (rw c.self.view_is (sym c.contains32.ensures.held ∙ c.if-contains32.true))
    (rw c.iter-ends.ensures.items at c.next.ensures.steps) c.next-then-contains32.ensures.steps)

given_from_zero : (c : goal.After-from_gap)
    → gaps_left c.start_of_gap-start.result c.next-then-contains32.new.self ≡ complement_of c.self.inside.ends
given_from_zero c = rw c.start_of_gap-start.ensures
    (gaps_from_zero c.self.inside.ends c.next.new.self c.next-then-contains32.new.self c.next.result c.next-then-contains32.result
    c.self.invariant.0
    (rw c.self.view_is (sym c.contains32.ensures.held ∙ c.if-contains32.true))
    (rw c.iter-ends.ensures.items at c.next.ensures.steps) c.next-then-contains32.ensures.steps)

from_start : (c : goal.Else-contains32) → 0 ∷ toggle_back c.iter-ends.result ≡ complement_of c.self.inside.ends
from_start c = rw c.iter-ends.ensures.items
    (gaps_from_start c.self.inside.ends c.self.invariant.0 (rw c.self.view_is (sym c.contains32.ensures.held ∙ c.if-contains32.false)))

given_from_start : (c : goal.After-from_gap-2) → 0 ∷ toggle_back c.iter-ends.result ≡ complement_of c.self.inside.ends
given_from_start c = rw c.iter-ends.ensures.items
    (gaps_from_start c.self.inside.ends c.self.invariant.0 (rw c.self.view_is (sym c.contains32.ensures.held ∙ c.if-contains32.false)))

pub from_gap-requires : goal.from_gap-requires
from_gap-requires c = rw (from_zero c) (complement_valid c.self.inside.ends c.self.invariant.0)

pub returns-then-contains32-clause-gives : goal.returns-then-contains32-clause-gives
returns-then-contains32-clause-gives c = c.from_gap.ensures ∙ (given_from_zero c ∙ ap (λ (xs : List ℕ). complement_of xs) c.self.view_is)

pub returns-then-contains32-clause-complement : goal.returns-then-contains32-clause-complement
returns-then-contains32-clause-complement c = λ n h. rw (← c.self.view_is) (complement-holds c.self.inside.ends n c.self.invariant.0 h)

pub from_gap-requires-2 : goal.from_gap-requires-2
from_gap-requires-2 c = rw (from_start c) (complement_valid c.self.inside.ends c.self.invariant.0)

pub returns-clause-complement : goal.returns-clause-complement
returns-clause-complement c = λ n h. rw (← c.self.view_is) (complement-holds c.self.inside.ends n c.self.invariant.0 h)

pub returns-clause-gives : goal.returns-clause-gives
returns-clause-gives c = c.from_gap-2.ensures ∙ (given_from_start c ∙ ap (λ (xs : List ℕ). complement_of xs) c.self.view_is)

pub returns-then-contains32-clause-valid : goal.returns-then-contains32-clause-valid
returns-then-contains32-clause-valid c = rw (← c.self.view_is) (complement_valid c.self.inside.ends c.self.invariant.0)

pub returns-clause-valid : goal.returns-clause-valid
returns-clause-valid c = rw (← c.self.view_is) (complement_valid c.self.inside.ends c.self.invariant.0)

pub returns-then-contains32-clause-within : goal.returns-then-contains32-clause-within
returns-then-contains32-clause-within c = rw (← c.self.view_is)
    (ranges_within (complement_of c.self.inside.ends) (complement_valid c.self.inside.ends c.self.invariant.0))

pub returns-clause-within : goal.returns-clause-within
returns-clause-within c = rw (← c.self.view_is)
    (ranges_within (complement_of c.self.inside.ends) (complement_valid c.self.inside.ends c.self.invariant.0))

pub returns-then-contains32-clause-apart : goal.returns-then-contains32-clause-apart
returns-then-contains32-clause-apart c = rw (← c.self.view_is) (gaps_apart c.self.inside.ends c.self.invariant.0)

pub returns-clause-apart : goal.returns-clause-apart
returns-clause-apart c = rw (← c.self.view_is) (gaps_apart c.self.inside.ends c.self.invariant.0)

pub returns-then-contains32-clause-held : goal.returns-then-contains32-clause-held
returns-then-contains32-clause-held c = λ n h. rw (← c.self.view_is) (gaps_hold c.self.inside.ends n c.self.invariant.0 h)

pub returns-clause-held : goal.returns-clause-held
returns-clause-held c = λ n h. rw (← c.self.view_is) (gaps_hold c.self.inside.ends n c.self.invariant.0 h)
