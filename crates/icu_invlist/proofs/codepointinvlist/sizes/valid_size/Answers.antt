use Rattle.std.proofs.Common.{◌∙◌, ap, arith, inl, inr, List, ℕ}
use Rattle.icu_invlist.proofs.CheckedLists.{checked_more, checked_low, checked_high, checked_all, checked_whole}
use Rattle.icu_invlist.proofs.SizeLemmas.{counted, counted_members, counted_more}
use Rattle.icu_invlist.proofs.codepointinvlist.sizes.valid_size.Goals as goal

pub returns-then-end-next : goal.returns-then-end-next
returns-then-end-next c = λ v. elim c.then-end-next.either [
  | inl h ↦ checked_low c.args.ends.now c.loop-end.yielded c.loop-end.end-iterator c.next.new.self c.loop-end.next c.in-Some.end
      c.loop-end.invariant.checked c.in-Some.ensures.steps
      (let e = c.from-end.ensures in omega arith) v
  | inr h ↦ checked_high c.args.ends.now c.loop-end.yielded c.loop-end.end-iterator c.next.new.self c.loop-end.next c.in-Some.end
      c.loop-end.invariant.checked c.in-Some.ensures.steps
      (let e = c.from-end.ensures in omega arith) v
]

pub loop-end-preserved : goal.loop-end-preserved
loop-end-preserved c = let e = c.from-end.ensures in record {
  checked = rw c.from-end.ensures
      (checked_more c.args.ends.now c.loop-end.yielded c.loop-end.end-iterator c.next.new.self c.loop-end.next c.in-Some.end
      c.loop-end.invariant.checked c.in-Some.ensures.steps (omega arith) (omega arith));
  counted = (let m = counted_more 0 c.in-Some.end c.loop-end.yielded in let k = c.loop-end.invariant.counted in omega arith);
  fits = omega arith;
}

pub returns : goal.returns
returns c =
    let v = checked_all c.args.ends.now c.loop-end.yielded c.loop-end.end-iterator c.loop-end.next c.loop-end.invariant.checked
    c.in-None.ensures.steps.0 (let e = c.len.ensures in let f = c.is_multiple_of.ensures.0 c.if-not-is_multiple_of.false in omega arith) in (
      v,
      c.loop-end.invariant.counted
          ∙ (ap (λ (xs : List ℕ). counted 0 xs) (checked_whole _ _ _ _ c.loop-end.invariant.checked c.in-None.ensures.steps.0)
          ∙ counted_members c.args.ends.now v),
    )
