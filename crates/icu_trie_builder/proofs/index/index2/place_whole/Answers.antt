use Rattle.std.proofs.Common.{◌≡◌, ◌+◌, ◌*◌, ℕ, length, arith, ap, ◌∙◌}
use Rattle.icu_trie_core.specs.Blocks.{block}
use Rattle.icu_trie_builder.proofs.CompactionLemmas.Windows.{length-window}
use Rattle.icu_trie_builder.proofs.CompactionLemmas.Compacting.{compacting-step, compacting-done}
use Rattle.icu_trie_builder.proofs.index.index2.place_whole.Goals as goal

pub place-requires-clause-some : goal.place-requires-clause-some
place-requires-clause-some c =
    let n : ℕ = c.loop-number.number in
    omega (arith, ap length c.block_at-wanted.ensures, length-window 32 (32 * n) c.args.cells.now (omega arith))

pub place-requires-clause-limit : goal.place-requires-clause-limit
place-requires-clause-limit c =
    let n : ℕ = c.loop-number.number in
    omega (arith, ap length c.block_at-wanted.ensures, length-window 32 (32 * n) c.args.cells.now (omega arith))

pub loop-number-preserved : goal.loop-number-preserved
loop-number-preserved c =
    let v = c.loop-number.invariant in
    let n : ℕ = c.loop-number.number in
    let cells = c.args.cells.now in
    let wanted : c.block_at-wanted.result.now ≡ block 32 cells (0 + n) =
    c.block_at-wanted.ensures ∙ ap (λ i. block 32 cells i) (omega arith) in
    let len : length (block 32 cells (0 + n)) ≡ 32 = length-window 32 (32 * (0 + n)) cells (omega arith) in
    let placed = rw wanted at c.in_ok-at.ensures.placed in
    record {
      placed = compacting-step 32 0 n (block 32 cells) _ _ _ v.placed (omega arith) len _ _ _ _ placed c.in_ok-push.ensures.items;
      short = grind (arith, v.short, placed.grown, len);
    }

pub returns-clause-placed : goal.returns-clause-placed
returns-clause-placed c = compacting-done _ _ _ _ _ _ _ c.loop-number.invariant.placed
