use Rattle.std.proofs.Common.{length, arith, inl, inr}
use Rattle.std.proofs.lemmas.Bool.{cases_lt}
use Rattle.std.proofs.lemmas.List.{take_rest}
use Rattle.icu_trie_text.proofs.CopiedLemmas.{ascii_value, copied_all, copied_more}
use Rattle.icu_trie_text.proofs.copy_parts.copy_rest.Goals as goal
use Rattle.icu_trie_text.proofs.copy_parts.copy_rest.Goals.{then-lead-ascii_end, else-lead-ascii_end}

pub loop-i-preserved : goal.loop-i-preserved
loop-i-preserved g c = λ old before.
    let gives = g.V.PartValues.gives c.args.trie.now in
    let r = c.loop-i.invariant old before in
    elim c.if-lead-ascii_end.branch [
      | then-lead-ascii_end w ↦ rw (w.values-is, w.i-is)
          (copied_more gives c.args.bytes.now old c.loop-i.values c.loop-i.i c.loop-i.j 1 w.ascii.result r
          (ascii_value gives c.args.bytes.now c.loop-i.i w.ascii.result (omega arith)
          (omega (arith, c.ascii_end.ensures.bound)) w.ascii.ensures)
          (omega arith))
      | else-lead-ascii_end w ↦ rw (w.values-is, w.i-is)
          (copied_more gives c.args.bytes.now old c.loop-i.values c.loop-i.i c.loop-i.j w.outlined_first_value-value.result.1
          w.outlined_first_value-value.result.0 r (rw (take_rest c.args.bytes.now c.loop-i.i) at w.outlined_first_value-value.ensures) (omega arith))
    ]

pub returns-after-loop-i : goal.returns-after-loop-i
returns-after-loop-i g c = λ old before.
    let gives = g.V.PartValues.gives c.args.trie.now in
    let r = c.loop-i.invariant old before in
    copied_all gives c.args.bytes.now old c.loop-i.values c.loop-i.i c.loop-i.j r
    (elim (cases_lt c.loop-i.i (length c.args.bytes.now)) [
      | inr ended ↦ inl ended
      | inl left ↦ elim (cases_lt c.loop-i.j (length c.loop-i.values)) [
        | inr full ↦ inr full
        | inl room ↦ absurd (grind (arith, left, room, c.loop-i-test.false))
      ]
    ])
