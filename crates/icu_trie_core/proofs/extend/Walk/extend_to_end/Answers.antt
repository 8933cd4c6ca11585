use Rattle.std.proofs.Common.{rules, arith, ◌≡◌, None}
use Rattle.icu_trie_core.proofs.RangeLemmas.{BreaksOff-at_high, EndsAt-over_high, EndsAt-at_high}
use Rattle.icu_trie_core.proofs.extend.Walk.extend_to_end.Goals as goal

pub returns-in_err-high_is-clause-run : goal.returns-in_err-high_is-clause-run
returns-in_err-high_is-clause-run g c =
    let none : c.from_residual-in_err-high_is.result ≡ None = search rules in
    let e = rw c.in_ok-end.ensures.kept at c.in_err-high_is.ensures.same in
    rw none (BreaksOff-at_high _ _ _ c.blocks_end_of-limit.ensures c.in_ok-end.ensures.run c.if-end-limit.false (omega arith) e)

pub returns-then-branch-clause-run : goal.returns-then-branch-clause-run
returns-then-branch-clause-run g c =
    let e = rw (c.in_ok-end.ensures.kept, c.if-branch.true) at c.in_ok-high_is.ensures.same in
    EndsAt-over_high _ _ _ c.blocks_end_of-limit.ensures c.in_ok-end.ensures.run c.if-end-limit.false (omega arith) e

pub returns-else-branch-clause-run : goal.returns-else-branch-clause-run
returns-else-branch-clause-run g c =
    let e = rw (c.in_ok-end.ensures.kept, c.if-branch.false) at c.in_ok-high_is.ensures.same in
    EndsAt-at_high _ _ _ c.blocks_end_of-limit.ensures c.in_ok-end.ensures.run c.if-end-limit.false (omega arith) e
