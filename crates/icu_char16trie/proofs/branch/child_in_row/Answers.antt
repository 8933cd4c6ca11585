use Rattle.std.proofs.Common.{arith, sym}
use Rattle.icu_char16trie.specs.Steps.{gone, last, here, on}
use Rattle.icu_char16trie.proofs.PartLemmas.{row_cut}
use Rattle.icu_char16trie.proofs.branch.child_in_row.Goals as goal

pub returns-in_err-first-clause-exact : goal.returns-in_err-first-clause-exact
returns-in_err-first-clause-exact c = c.loop-left.invariant.leads _
    (rw c.from_residual.ensures (row_cut _ _ _ _ c.loop-left-test.true c.in_err-first.ensures.two))

pub returns-then-first-unit-clause-exact : goal.returns-then-first-unit-clause-exact
returns-then-first-unit-clause-exact c =
    let two = c.in_ok-first.ensures.two in
    c.loop-left.invariant.leads _ (here _ _ c.in_ok-first.value _ c.loop-left-test.true (rw c.if-first-unit.true at two.0) two.1
    c.entry_child.ensures.child)

pub loop-left-preserved : goal.loop-left-preserved
loop-left-preserved c =
    let two = c.in_ok-first.ensures.two in
    record {
      near = omega (arith, c.short_end-place.ensures.near, c.in_ok-first.ensures.within);
      leads = λ r rest. c.loop-left.invariant.leads r
          (on _ _ c.in_ok-first.first c.in_ok-first.value r c.loop-left-test.true two.0 c.if-first-unit.false two.1
          (rw c.short_end-place.ensures.end at rest));
    }

pub returns-in_err-last-clause-exact : goal.returns-in_err-last-clause-exact
returns-in_err-last-clause-exact c = c.loop-left.invariant.leads _
    (gone _ _ _ (sym c.in_err-last.ensures.unit) c.from_residual-in_err-last.ensures)

pub returns-clause-exact : goal.returns-clause-exact
returns-clause-exact c = c.loop-left.invariant.leads _
    (last _ _ c.in_ok-last.last _ (omega (arith, c.loop-left-test.false)) (sym c.in_ok-last.ensures.unit) c.then_some.ensures)
