use Rattle.std.proofs.Common.{ap, sym, arith, Some}
use Rattle.icu_char16trie.proofs.CountLemmas.{last_counted, next_counted, no_first, no_jump, no_second}
use Rattle.icu_char16trie.proofs.counted.count_row.Goals as goal

pub returns-in_err-_unit : goal.returns-in_err-_unit
returns-in_err-_unit c = c.loop-left.invariant.counts _ (no_second _ _ _ _ _ _ c.loop-left-test.true c.in_err-_unit.ensures.two)

pub returns-in_err-child : goal.returns-in_err-child
returns-in_err-child c =
    let two = c.in_ok-_unit.ensures.two in
    c.loop-left.invariant.counts _
    (no_jump _ _ _ _ _ c.in_ok-_unit._unit c.in_ok-_unit.value _ c.loop-left-test.true c.loop-left.invariant.short two.0 two.1
    (sym c.in_err-child.ensures.child))

pub loop-left-preserved : goal.loop-left-preserved
loop-left-preserved c =
    let two = c.in_ok-_unit.ensures.two in
    record {
      near = omega (arith, c.short_end-place.ensures.near, c.in_ok-_unit.ensures.within);
      short = omega arith;
      counts = λ r h. c.loop-left.invariant.counts r
          (next_counted _ _ _ _ _ c.in_ok-_unit._unit c.in_ok-_unit.value c.in_ok-child.child _ _ r c.loop-left-test.true
          c.loop-left.invariant.short two.0 two.1
          (sym c.in_ok-child.ensures.child) c.short_end-place.ensures.end (rw c.count_at.ensures at c.both_counts-total.ensures) h);
    }

pub returns-in_err-_last : goal.returns-in_err-_last
returns-in_err-_last c = c.loop-left.invariant.counts _ (no_first _ _ _ _ _ _ (sym c.in_err-_last.ensures.unit))

pub returns : goal.returns
returns c =
    c.loop-left.invariant.counts _
    (last_counted _ _ _ _ _ c.in_ok-_last._last _ (omega (arith, c.loop-left-test.false)) (sym c.in_ok-_last.ensures.unit)
    (ap Some (rw c.count_at-2.ensures at c.both_counts.ensures)))
