use Rattle.std.proofs.Common.{sym, arith}
use Rattle.icu_char16trie.proofs.SoundnessLemmas.{last_walked, entry_walked, no_last_child, no_child, no_rest}
use Rattle.icu_char16trie.proofs.soundness.check_row.Goals as goal

pub returns-in_err-want : goal.returns-in_err-want
returns-in_err-want c =
    let two = c.in_ok-unit.ensures.two in
    rw c.from_residual-in_err-want.ensures
    (c.loop-left.invariant.refused
    (no_child _ _ _ c.in_ok-unit.unit c.in_ok-unit.value c.in_ok-child.child _ c.loop-left-test.true c.loop-left.invariant.short two.0 two.1
    (sym c.in_ok-child.ensures.child) (omega (arith, c.in_err-want.ensures))))

pub loop-left-preserved : goal.loop-left-preserved
loop-left-preserved c =
    let two = c.in_ok-unit.ensures.two in
    record {
      near = omega (arith, c.short_end-place.ensures.near, c.in_ok-unit.ensures.within);
      some = omega arith;
      short = omega arith;
      walked = λ next new w. c.loop-left.invariant.walked next new
          (entry_walked _ c.loop-left.place c.loop-left.left c.in_ok-unit.unit c.in_ok-unit.value c.in_ok-child.child _ _ next
          c.loop-left.wanted new
          c.loop-left-test.true c.loop-left.invariant.short two.0 two.1 (sym c.in_ok-child.ensures.child) c.short_end-place.ensures.end
          (omega (arith, c.from.ensures)) (omega (arith, c.in_ok-child.ensures.above)) (omega (arith, c.in_ok-want.ensures.0))
          (omega (arith, c.short_end-place.ensures.above))
          (rw (c.from-least.ensures, c.in_ok-want.ensures.1) at w));
      refused = λ w. c.loop-left.invariant.refused
          (no_rest _ c.loop-left.place c.loop-left.left c.in_ok-unit.unit c.in_ok-unit.value _ _ c.loop-left-test.true
          c.loop-left.invariant.short two.0 two.1 c.short_end-place.ensures.end
          (rw c.from-least.ensures at w));
    }

pub returns-in_err-want-2 : goal.returns-in_err-want-2
returns-in_err-want-2 c =
    rw c.from_residual-in_err-want-2.ensures
    (c.loop-left.invariant.refused
    (no_last_child _ _ _ c.in_ok-last.last _ (omega (arith, c.loop-left-test.false)) (sym c.in_ok-last.ensures.unit)
    (omega (arith, c.in_err-want-2.ensures))))

pub returns : goal.returns
returns c =
    rw (c.from-3.ensures, c.in_ok-want-2.ensures.1)
    (c.loop-left.invariant.walked _ _
    (last_walked _ _ _ c.in_ok-last.last _ c.loop-left.wanted (omega (arith, c.loop-left-test.false)) (sym c.in_ok-last.ensures.unit)
    (omega (arith, c.from-2.ensures)) (omega (arith, c.in_ok-want-2.ensures.0))))
