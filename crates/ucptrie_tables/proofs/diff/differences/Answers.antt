use Rattle.std.proofs.Common.{◌≡◌, ◌≢◌, ℕ, ◌+◌, ◌++◌, ◌∷◌, [], append-nil, append_assoc, arith, rules}
use Rattle.icu_trie_core.specs.Range.{last_of}
use Rattle.icu_trie_core.specs.declared.range.CodePointMapRange.{CodePointMapRange}
use Rattle.ucptrie_tables.proofs.DifferenceLemmas.{AreSame-run, differences-same, differences-other}
use Rattle.ucptrie_tables.proofs.diff.differences.Goals as goal

pub loop-start-preserved-in_ok-push : goal.loop-start-preserved-in_ok-push
loop-start-preserved-in_ok-push c =
    let end = c.end_of_values-end.ensures in
    let d : CodePointMapRange (ℕ × ℕ) = record { range = c.new.result; value = c.values_at-values.result } in
    let first : c.new.result.start ≡ c.loop-start.start = search rules in
    let last : last_of d + 1 ≡ c.end_of_values-end.result = grind (arith, c.new.ensures.end, end.after) in
    let other : c.values_at-values.result.0 ≢ c.values_at-values.result.1 = search rules in
    let grown : c.push.new.self.items ≡ c.loop-start.found.items ++ d ∷ [] = search rules in
    record {
      within = end.within;
      onward = λ ds rest. rw (grown, append_assoc) (c.loop-start.invariant.onward (d ∷ ds)
          (differences-other c.args.first.now c.args.second.now d _ _ first last end.within end.equal end.ends end.after other ds rest));
    }

pub loop-start-preserved : goal.loop-start-preserved
loop-start-preserved c =
    let end = c.end_of_values-end.ensures in
    let same : c.values_at-values.result.0 ≡ c.values_at-values.result.1 = search rules in
    let run = AreSame-run c.args.first.now c.args.second.now _ _ _ _ end.equal same in
    record {
      within = end.within;
      onward = λ ds rest. c.loop-start.invariant.onward ds
          (differences-same c.args.first.now c.args.second.now _ _ (omega (arith, end.after)) run ds rest);
    }

pub returns : goal.returns
returns c =
    let all = c.loop-start.invariant.onward [] (λ u from below. absurd (omega (arith, from, below, c.loop-start-test.false))) in
    rw (append-nil c.loop-start.found.items) at all
