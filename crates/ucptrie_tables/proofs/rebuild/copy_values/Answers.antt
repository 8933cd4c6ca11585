use Rattle.std.proofs.Common.{◌≤◌, rules, arith, sym, inl, inr, ◌∙◌}
use Rattle.std.proofs.lemmas.Bool.{cases_lt}
use Rattle.ucptrie_tables.proofs.RebuildLemmas.{value_after-inside, value_after-below}
use Rattle.ucptrie_tables.proofs.rebuild.copy_values.Goals as goal

pub loop-run-preserved : goal.loop-run-preserved
loop-run-preserved c =
    let held = c.loop-run.invariant in
    let found = c.in-Some.ensures in
    let run = c.in-Some.run' in
    let after = c.in_ok-set_range_value.ensures.ok in
    let last = c.end.ensures in
    let first = found.first in
    record {
      within = omega (arith, found.run.within, last);
      copied = λ u l.
          let below : u ≤ 0x10FFFF = omega (arith, l, last, found.run.within) in
          after.values u below ∙ elim (cases_lt u c.loop-run.next) [
            | inl low ↦ value_after-below run.range run.value _ (search rules) (search rules) u (search rules) ∙ held.copied u low
            | inr from ↦ value_after-inside run.range run.value _ (search rules) (search rules) u (search rules) (search rules)
                ∙ sym (found.run.equal u from (search rules))
          ];
      default = after.default ∙ held.default;
      error = after.error ∙ held.error;
      trie_type = after.trie_type ∙ held.trie_type;
    }
