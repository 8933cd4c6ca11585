use Rattle.std.proofs.Common.{arith}
use Rattle.icu_char16trie.specs.Steps.{row}
use Rattle.icu_char16trie.proofs.branch.child_in_part.Goals as goal

pub returns-in_err-half-clause-exact : goal.returns-in_err-half-clause-exact
returns-in_err-half-clause-exact c = c.loop-left.invariant.leads _ (rw c.from_residual.ensures c.in_err-half.ensures)

pub loop-left-preserved : goal.loop-left-preserved
loop-left-preserved c =
    let half = c.in_ok-half.ensures in
    record {
      near = half.near;
      leads = λ r rest. c.loop-left.invariant.leads r (half.leads r rest);
    }

pub returns-clause-exact : goal.returns-clause-exact
returns-clause-exact c = c.loop-left.invariant.leads _ (row _ _ _ (omega (arith, c.loop-left-test.false)) c.child_in_row.ensures.exact)
