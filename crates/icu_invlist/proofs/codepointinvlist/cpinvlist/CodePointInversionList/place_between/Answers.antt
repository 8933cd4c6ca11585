use Rattle.std.proofs.Common.{arith, inl, inr}
use Rattle.icu_invlist.proofs.PlaceLemmas.{valid-length}
use Rattle.icu_invlist.proofs.codepointinvlist.cpinvlist.CodePointInversionList.place_between.Goals as goal

pub overflow_add-step : goal.overflow_add-step
overflow_add-step c = let l = valid-length c.args.self.now (rw (← c.self.view_is) c.self.invariant.0) in
    let w = c.loop-size.invariant.within in omega arith

pub overflow_add-low : goal.overflow_add-low
overflow_add-low c = let l = valid-length c.args.self.now (rw (← c.self.view_is) c.self.invariant.0) in
    let w = c.loop-size.invariant.within in let e = c.steps_up_to.ensures.within in let t = c.loop-size-test.true in omega arith

pub loop-size-preserved : goal.loop-size-preserved
loop-size-preserved c =
    let i = c.loop-size.invariant in
    let e = c.steps_up_to.ensures in
    let t = c.loop-size-test.true in
    record {
      first = (let a = i.first in omega arith);
      from = e.reached;
      to = elim e.past [
        | inl h ↦ (let a = i.to in let b = e.within in omega arith)
        | inr h ↦ (let a = i.to in let b = e.within in omega arith)
      ];
      within = (let a = i.within in let b = e.within in omega arith);
    }
