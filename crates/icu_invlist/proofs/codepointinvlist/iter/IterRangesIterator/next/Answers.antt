use Rattle.std.proofs.Common.{◌≡◌, ◌≤◌, ◌-◌, [], ◌∷◌, ◌∙◌, length, take, drop, List, ℕ, ap, sym, rules}
use Rattle.icu_zerovec.specs.PackedBytes.{number_of}
use Rattle.icu_invlist.specs.InversionList.{ranges_of}
use Rattle.icu_invlist.specs.Inside.StillGiven.{ends_in}
use Rattle.icu_invlist.proofs.MemberLemmas.{same_range}
use Rattle.icu_invlist.proofs.PackedEnds.{no_ends, first_range, rest_packed, same_end, some_end}
use Rattle.icu_invlist.proofs.codepointinvlist.iter.IterRangesIterator.next.Goals as goal

pub returns-then-is_empty-clause-steps : goal.returns-then-is_empty-clause-steps
returns-then-is_empty-clause-steps c =
    let e : length c.self.inside.bytes.now ≡ 0 = search rules in
    let n : ranges_of c.args.self.now ≡ [] = rw (← c.self.view_is) (ap ranges_of (no_ends c.self.inside.bytes.now e)) in (n, n)

six : (c : goal.After-new) → 6 ≤ length c.self.inside.bytes.now
six c = search rules

first_end : (c : goal.After-new) → c.from.result ≡ number_of 3 (take 3 c.split_at.result.0.now)
first_end c = c.from.ensures
    ∙ same_end (take 3 c.split_at.result.0.now) c.in_ok-start.start (sym c.from_unaligned.ensures ∙ c.in_ok-start.was)

next_end : (c : goal.After-new) → c.from-2.result ≡ number_of 3 (take 3 (drop 3 c.split_at.result.0.now))
next_end c = c.from-2.ensures
    ∙ same_end (take 3 (drop 3 c.split_at.result.0.now)) c.in_ok-end.end (sym c.from_unaligned-2.ensures ∙ c.in_ok-end.was)

pub overflow_sub-from : goal.overflow_sub-from
overflow_sub-from c =
    let h : 6 ≤ length c.self.inside.bytes.now = search rules in
    rw (c.from-2.ensures
    ∙ same_end (take 3 (drop 3 c.split_at.result.0.now)) c.in_ok-end.end (sym c.from_unaligned-2.ensures ∙ c.in_ok-end.was))
    (some_end c.self.inside.bytes.now c.split_at.result.0.now c.self.invariant h c.split_at.ensures.front)

pub invariant_of-self-2 : goal.invariant_of-self-2
invariant_of-self-2 c = rw (c.split_at.ensures.back)
    (rest_packed c.self.inside.bytes.now c.split_at.result.0.now c.self.invariant (six c) c.split_at.ensures.front)

pub returns-clause-steps : goal.returns-clause-steps
returns-clause-steps c = rw (c.split_at.ensures.back) (rw (← c.self.view_is)
    (ap (λ (xs : List ℕ). ranges_of xs) (first_range c.self.inside.bytes.now c.split_at.result.0.now (six c) c.split_at.ensures.front)
    ∙ ap (λ r. r ∷ ranges_of (ends_in (drop 6 c.self.inside.bytes.now)))
    (sym (same_range c.new.result _ _ (c.new.ensures.start ∙ first_end c) (c.new.ensures.end ∙ ap (λ (n : ℕ). n - 1) (next_end c))
    c.new.ensures.exhausted))))

pub returns-clause-goes : goal.returns-clause-goes
returns-clause-goes c = let e = ap length (returns-clause-steps c) in search rules
