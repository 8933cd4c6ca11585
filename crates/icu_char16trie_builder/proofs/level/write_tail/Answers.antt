use Rattle.std.proofs.Common.{rules, arith, ◌≡◌, ◌-◌, ◌<◌, List, ℕ, length, take, drop}
use Rattle.std.proofs.lemmas.List.{length-take-le, length-drop}
use Rattle.icu_char16trie_builder.proofs.LevelLemmas.{tail_step, grew_twice, grew_at_most}
use Rattle.icu_char16trie_builder.proofs.level.write_tail.Goals as goal

pub loop-left-preserved : goal.loop-left-preserved
loop-left-preserved c =
    let start : c.saturating_sub-start.result ≡ c.loop-left.left - 16 = search rules in
    let below : c.saturating_sub-start.result < c.loop-left.left = omega (arith, start, c.loop-left-test.true) in
    let units : List ℕ = c.args.units.now in
    let behind : length (drop c.saturating_sub-start.result units) ≡ length units - c.saturating_sub-start.result =
    length-drop c.saturating_sub-start.result units in
    let count : length (take (c.loop-left.left - c.saturating_sub-start.result) (drop c.saturating_sub-start.result units))
    ≡ c.loop-left.left - c.saturating_sub-start.result =
    length-take-le (c.loop-left.left - c.saturating_sub-start.result) (drop c.saturating_sub-start.result units)
    (omega (arith, behind, below, c.loop-left.invariant.within)) in
    record {
      within = omega (arith, below, c.loop-left.invariant.within);
      node = tail_step c.saturating_sub-start.result c.loop-left.left _ units _ (omega (arith, below))
          (c.in_ok-write_run.ensures.node _ c.loop-left.invariant.node);
      grew = grew_at_most _ _ _ _ (omega (arith, count, below, c.loop-left.invariant.within))
          (grew_twice _ _ _ _ _ c.loop-left.invariant.grew c.in_ok-write_run.ensures.grew);
    }
