use Rattle.std.proofs.Common.{Some, arith, sym, ap, inl, inr, ◌∙◌}
use Rattle.std.proofs.lemmas.Bool.{cases_lt}
use Rattle.icu_trie_builder.proofs.builder.CodePointTrieBuilder.fill_from.Goals as goal

pub fill-requires-clause-blank : goal.fill-requires-clause-blank
fill-requires-clause-blank g c = λ u low high. c.loop-next.invariant.blank u (omega (arith, low, c.run_from-run.ensures.first))
    (omega (arith, high, c.run_from-run.ensures.within))

pub loop-next-preserved : goal.loop-next-preserved
loop-next-preserved g c =
    let held = c.loop-next.invariant in
    let run = c.run_from-run.ensures in
    let made = c.in_ok-fill.ensures in
    let last = c.end.ensures in
    record {
      within = omega (arith, run.within, last);
      filled = λ u l. elim (cases_lt u c.loop-next.next) [
        | inl low ↦
            held.filled u low ∙ ap Some (sym (made.outside u (omega (arith, low, held.within)) (inl (omega (arith, low, run.first)))))
        | inr from ↦ run.equal u from (omega (arith, l, last))
            ∙ ap Some (sym (made.inside u (omega (arith, from, run.first)) (omega (arith, l, last))))
      ];
      blank = λ u low high. made.outside u high (inr (omega (arith, low, last))) ∙ held.blank u (omega (arith, low, run.ordered, last)) high
          ∙ sym made.default;
      default = made.default ∙ held.default;
      error = made.error ∙ held.error;
      trie_type = made.trie_type ∙ held.trie_type;
    }
