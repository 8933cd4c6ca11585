use Rattle.std.proofs.Common.{◌≡◌, ◌∙◌, [], ap, sym, inl, inr, arith, length}
use Rattle.icu_invlist.specs.InversionList.{members}
use Rattle.icu_invlist.proofs.CharacterLemmas.{left_found, found_goes, none_later, left_end, last_begun, next_begun}
use Rattle.icu_invlist.proofs.codepointinvlist.iter.IterCharsIterator.next.Goals as goal
use Rattle.icu_invlist.proofs.codepointinvlist.iter.IterCharsIterator.next.Goals.{in_default-via-in-Some+in_default, in_default-via-in_default}

pub returns-then-is_some-clause-steps : goal.returns-then-is_some-clause-steps
returns-then-is_some-clause-steps c = rw (← c.self.view_is, c.loop-found.invariant)
    (left_found c.loop-found.self-inside.next c.take_char-found.new.next c.loop-found.self-inside.end c.loop-found.self-inside.ends
    c.loop-found.self-inside.last.0 c.loop-found.self-inside.last.1 c.take_char-found.result c.take_char-found.ensures c.if-is_some.ensures)

pub returns-then-is_some-clause-goes : goal.returns-then-is_some-clause-goes
returns-then-is_some-clause-goes c = found_goes _ _ c.take_char-found.result (returns-then-is_some-clause-steps c) c.if-is_some.ensures

-- No range is left but the last one.
at_last : (c : goal.Then-self) → (members c.loop-found.self-inside.ends ≡ []) × (c.next-in-loop-found.new.self ≡ [])
at_last c = none_later c.loop-found.self-inside.ends c.next.new.self c.next-in-loop-found.new.self c.next.result c.next-in-loop-found.result
    c.next.ensures.steps c.next-in-loop-found.ensures.steps (elim c.in_default.branch [
      | in_default-via-in-Some+in_default w ↦ inr w.in_default.is-1
      | in_default-via-in_default w ↦ inl w.in_default.is-0
    ])

pub returns-then-self-clause-steps : goal.returns-then-self-clause-steps
returns-then-self-clause-steps c =
    let q = left_end c.loop-found.self-inside.next c.take_char-found.new.next c.loop-found.self-inside.end c.loop-found.self-inside.ends
    c.next-in-loop-found.new.self c.loop-found.self-inside.last.0 c.loop-found.self-inside.last.1 c.take_char-found.result
    c.take_char-found.ensures c.if-is_some.ensures (at_last c) c.if-self.true in
    (sym c.self.view_is ∙ (c.loop-found.invariant ∙ q.0), q.1)

at_last_begun : (c : goal.After-self-in_default-1) → (members c.loop-found.self-inside.ends ≡ []) × (c.next-in-loop-found.new.self ≡ [])
at_last_begun c = none_later c.loop-found.self-inside.ends c.next.new.self c.next-in-loop-found.new.self c.next.result
    c.next-in-loop-found.result c.next.ensures.steps c.next-in-loop-found.ensures.steps (elim c.in_default.branch [
      | in_default-via-in-Some+in_default w ↦ inr w.in_default.is-1
      | in_default-via-in_default w ↦ inl w.in_default.is-0
    ])

pub loop-found-smaller-in_default : goal.loop-found-smaller-in_default
loop-found-smaller-in_default c =
    let none : length c.next-in-loop-found.new.self ≡ 0 = ap length (at_last_begun c).1 in
    omega (arith, none, c.take.ensures.after.0, c.take.ensures.after.1, c.if-self.false)

pub loop-found-preserved-in_default : goal.loop-found-preserved-in_default
loop-found-preserved-in_default c = rw c.take.ensures.value
    (c.loop-found.invariant ∙ last_begun c.loop-found.self-inside.next c.take_char-found.new.next c.loop-found.self-inside.end
    c.loop-found.self-inside.ends c.next-in-loop-found.new.self c.loop-found.self-inside.last.0 c.loop-found.self-inside.last.1
    c.take_char-found.result c.take.new.dest c.take_char-found.ensures c.if-is_some.ensures (at_last_begun c) c.take.ensures.after)

pub loop-found-preserved : goal.loop-found-preserved
loop-found-preserved c = rw (c.from-self-inside.ensures, c.from-self-inside-in-loop-found.ensures)
    (c.loop-found.invariant ∙ next_begun c.loop-found.self-inside.next c.take_char-found.new.next c.loop-found.self-inside.end
    c.in-Some-Some.start c.in-Some-Some.end c.loop-found.self-inside.ends c.next.new.self c.next-in-loop-found.new.self
    c.loop-found.self-inside.last.0 c.loop-found.self-inside.last.1 c.take_char-found.result c.take_char-found.ensures c.if-is_some.ensures
    c.in-Some-Some.ensures.steps c.in-Some-Some.ensures'.steps)
