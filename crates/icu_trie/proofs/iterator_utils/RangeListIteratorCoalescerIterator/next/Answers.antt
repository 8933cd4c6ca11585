use Rattle.std.proofs.Common.{rules, refl, sym, ◌∙◌}
use Rattle.itertools.proofs.AdaptorLemmas.{Partway-start, Partway-as, Partway-next, Partway-end}
use Rattle.icu_trie.proofs.JoinedLemmas.{joined_ranges_from-continued}
use Rattle.icu_trie.proofs.iterator_utils.RangeListIteratorCoalescerIterator.next.Goals.{in-Some, in-None+in_ok-range-in-None}
use Rattle.icu_trie.proofs.iterator_utils.RangeListIteratorCoalescerIterator.next.Goals as goal

pub returns-in_err-range-in-None-clause-steps : goal.returns-in_err-range-in-None-clause-steps
returns-in_err-range-in-None-clause-steps g c =
    Partway-end (Partway-next (Partway-start g.I.Iterator c.requires.0) _ c.next.ensures.steps c.next.ensures.goes) refl (search rules)
    (λ h k. (k, λ rest z. (search rules)))

pub loop-next-init : goal.loop-next-init
loop-next-init g c = elim c.match-take.branch [
  | in-Some w ↦ (Partway-as (Partway-start g.I.Iterator c.requires.0) (search rules) (λ h k. (search rules)), (search rules))
  | in-None+in_ok-range-in-None w ↦ (
    Partway-as (Partway-next (Partway-start g.I.Iterator c.requires.0) _ w.in_ok-range-in-None.ensures.steps
        w.in_ok-range-in-None.ensures.goes) (search rules) (λ h k. (search rules)),
    (search rules),
  )
]

pub loop-next-preserved : goal.loop-next-preserved
loop-next-preserved g c = (
  Partway-as (Partway-next c.loop-next.invariant.0 _ c.in-Some-next.ensures.steps c.in-Some-next.ensures.goes) refl
      (λ h k. (
        tt,
        λ rest z. joined_ranges_from-continued g.U.PartialEq.eq c.loop-next.range c.in-Some-next.next c.new-range.result rest
            (sym c.is_continued.ensures ∙ c.if-is_continued.true) (c.new-range.ensures.start ∙ c.start.ensures)
            (c.new-range.ensures.end ∙ c.end.ensures) c.new-range.ensures.exhausted,
      )),
  (search rules),
)

pub returns-else-is_continued-clause-steps : goal.returns-else-is_continued-clause-steps
returns-else-is_continued-clause-steps g c =
    Partway-end (Partway-next c.loop-next.invariant.0 _ c.in-Some-next.ensures.steps c.in-Some-next.ensures.goes) refl tt
    (λ h k. (tt, λ rest z. rw (sym c.is_continued.ensures, c.if-is_continued.false) refl))

pub returns-clause-steps : goal.returns-clause-steps
returns-clause-steps g c = Partway-end (Partway-next c.loop-next.invariant.0 _ c.in_default.ensures.steps c.in_default.ensures.goes) refl
    (search rules) (λ h k. (tt, λ rest z. (search rules)))
