use Rattle.std.proofs.Common.{arith, inl, inr}
use Rattle.icu_invlist.proofs.RunLemmas.{ends_below-le}
use Rattle.icu_invlist.proofs.fill.narrowed.Goals as goal

pub loop-size-init : goal.loop-size-init
loop-size-init c = record { from = omega arith; to = (let b = ends_below-le c.args.ends.now c.args.c in omega arith); within = omega arith }

pub loop-size-preserved : goal.loop-size-preserved
loop-size-preserved c =
    let i = c.loop-size.invariant in
    let e = c.steps_below.ensures in
    let t = c.loop-size-test.true in
    record {
      from = e.reached;
      to = elim e.past [
        | inl h ↦ (let a = i.to in let b = e.within in omega arith)
        | inr h ↦
            (let a = i.to in let b = e.within in omega arith)
      ];
      within = (let a = i.within in let b = e.within in omega arith);
    }
