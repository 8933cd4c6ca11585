use Rattle.std.proofs.Common.{arith, sym}
use Rattle.icu_char16trie.proofs.SoundnessLemmas.{final_rests, no_plain, no_valued, on_both, plain_rests, valued_rests}
use Rattle.icu_char16trie.proofs.soundness.check_node.Goals as goal

pub returns-then-lead-ge-VALUE_IS_FINAL : goal.returns-then-lead-ge-VALUE_IS_FINAL
returns-then-lead-ge-VALUE_IS_FINAL c =
    final_rests _ _ c.in_ok-lead.lead _ _ (sym c.in_ok-lead.ensures.unit) c.if-lead-ge-VALUE_IS_FINAL.true
    (sym c.in_ok-short_number.ensures)

pub returns-then-lead-lt-MIN_VALUE_LEAD : goal.returns-then-lead-lt-MIN_VALUE_LEAD
returns-then-lead-lt-MIN_VALUE_LEAD c =
    let lead = sym c.in_ok-lead.ensures.unit in
    on_both c.check_match.result
    (no_plain _ _ c.in_ok-lead.lead lead c.if-lead-lt-MIN_VALUE_LEAD.true)
    (λ _ r. plain_rests _ _ c.in_ok-lead.lead _ _ lead c.if-lead-lt-MIN_VALUE_LEAD.true r)
    c.check_match.ensures

pub returns : goal.returns
returns c =
    let lead = sym c.in_ok-lead.ensures.unit in
    on_both c.check_match-2.result
    (no_valued _ _ c.in_ok-lead.lead _ lead c.if-lead-lt-MIN_VALUE_LEAD.false c.if-lead-ge-VALUE_IS_FINAL.false c.node_end-end.ensures.end)
    (λ _ r.
    valued_rests _ _ c.in_ok-lead.lead _ _ _ _ lead c.if-lead-lt-MIN_VALUE_LEAD.false c.if-lead-ge-VALUE_IS_FINAL.false
    (sym c.in_ok-node_number.ensures) c.node_end-end.ensures.end
    (omega (arith, c.node_end-end.ensures.above)) r)
    c.check_match-2.ensures
