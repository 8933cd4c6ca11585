use Rattle.std.proofs.Common.{arith, sym}
use Rattle.icu_char16trie.proofs.SoundnessLemmas.{no_lower, no_side, no_upper, on_both, split_walked}
use Rattle.icu_char16trie.proofs.soundness.+check_part.Goals as goal

pub returns-in_err-next : goal.returns-in_err-next
returns-in_err-next t c =
    let two = c.in_ok-split.ensures.two in
    rw c.from_residual-in_err-next.ensures
    (no_lower _ _ _ c.in_ok-split.split c.in_ok-split.delta c.in_ok-low.low _ c.if-count-le-MAX_BRANCH_LINEAR_SUB_NODE_LENGTH.false two.0
    two.1 (sym c.in_ok-low.ensures.part) c.in_err-next.ensures)

pub returns-then-from-next : goal.returns-then-from-next
returns-then-from-next t c =
    let two = c.in_ok-split.ensures.two in
    no_side _ _ _ c.in_ok-split.split c.in_ok-split.delta c.in_ok-low.low _ c.in_ok-next.next _ _
    c.if-count-le-MAX_BRANCH_LINEAR_SUB_NODE_LENGTH.false two.0 two.1 (sym c.in_ok-low.ensures.part) c.in_ok-next.ensures
    (omega (arith, c.from.ensures))

pub returns : goal.returns
returns t c =
    let two = c.in_ok-split.ensures.two in
    on_both c.check_part-2.result
    (λ never. no_upper _ _ _ c.in_ok-split.split c.in_ok-split.delta _ _ c.if-count-le-MAX_BRANCH_LINEAR_SUB_NODE_LENGTH.false two.0 two.1
    c.delta_end-high.ensures.end (rw c.from-2.ensures at never))
    (λ next w.
    split_walked _ _ _ c.in_ok-split.split c.in_ok-split.delta c.in_ok-low.low _ _ c.in_ok-next.next next _ _ _
    c.if-count-le-MAX_BRANCH_LINEAR_SUB_NODE_LENGTH.false two.0 two.1 (sym c.in_ok-low.ensures.part)
    c.delta_end-high.ensures.end (omega (arith, c.in_ok-low.ensures.above)) (omega (arith, c.delta_end-high.ensures.above))
    (omega (arith, c.from.ensures)) c.in_ok-next.ensures
    (rw c.from-2.ensures at w))
    c.check_part-2.ensures
