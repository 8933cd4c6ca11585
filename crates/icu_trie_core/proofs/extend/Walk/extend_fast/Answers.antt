use Rattle.std.proofs.Common.{rules, arith, sym, ap, ◌∙◌, ◌≡◌, ◌≢◌, ◌<◌, ◌≤◌, ℕ, ◌+◌, ◌-◌, ◌*◌, ◌/◌, Option, Some, None, min, slice_get}
use Rattle.icu_trie_core.specs.Contents.{Contents}
use Rattle.icu_trie_core.specs.Inside.Walk.{Holds, block_seen, fast_end}
use Rattle.icu_trie_core.specs.Seen.{seen}
use Rattle.icu_trie_core.specs.declared.header.CodePointTrieHeader.{CodePointTrieHeader}
use Rattle.icu_trie_core.proofs.ReachLemmas.{EndsAt-in_step, BreaksOff-in_step, Holds-over_step, BreaksOff-at}
use Rattle.icu_trie_core.proofs.SeenLemmas.{seen-fast_block, seen-fast_missing}
use Rattle.icu_trie_core.proofs.SharedLemmas.{ends-aligned, reads_after}
use Rattle.icu_trie_core.proofs.extend.Walk.extend_fast.Goals as goal

-- The value continues over a block of 64.
over : {A : Type 0} (of_number : ℕ → Option A) (h : CodePointTrieHeader) (cells : Contents A) {start : ℕ} {value : A} (block : ℕ)
    {offset len : ℕ} → Holds (seen of_number h cells) start (min (block * 64) (fast_end h)) value → start ≤ block * 64
    → block * 64 + len ≤ fast_end h → len ≤ 64 → slice_get cells.index block ≡ Some offset
    → Holds (block_seen of_number h cells.values offset) 0 len value
    → (next : ℕ) → next ≤ block * 64 + len → Holds (seen of_number h cells) start next value
over of_number h cells block came begun fits short here =
    Holds-over_step came (seen-fast_block of_number h cells block fits short here) begun fits

pub returns-in_err-index_cell-clause-run : goal.returns-in_err-index_cell-clause-run
returns-in_err-index_cell-clause-run g c =
    let none : c.from_residual.result ≡ None = search rules in
    let is = rw c.loop-block.invariant.kept at c.in_err-index_cell.ensures.cell in
    let back : c.loop-block.block * 64 / 64 ≡ c.loop-block.block = omega arith in
    rw none (BreaksOff-at c.loop-block.invariant.equal (omega arith) (omega arith)
    (seen-fast_missing _ _ _ _ (c.loop-block.block * 64) (omega arith) (omega arith) (rw back (sym is))))

pub returns-in_err-reach-clause-run : goal.returns-in_err-reach-clause-run
returns-in_err-reach-clause-run g c =
    let none : c.from_residual-in_err-reach.result ≡ None = search rules in
    let so_far = c.loop-block.invariant in
    let is = rw so_far.kept at c.in_ok-index_cell.ensures.cell in
    let run = rw (c.in_ok-index_cell.ensures.kept, so_far.kept) at c.in_err-reach.ensures.run in
    rw none (BreaksOff-in_step so_far.equal
    (seen-fast_block _ _ _ c.loop-block.block (omega arith) (omega arith) (sym is ∙ ap (λ o. Some o) (sym c.from-offset.ensures)))
    (omega arith) (omega arith) run)

pub returns-then-reach-len-clause-run : goal.returns-then-reach-len-clause-run
returns-then-reach-len-clause-run g c =
    let so_far = c.loop-block.invariant in
    let is = rw so_far.kept at c.in_ok-index_cell.ensures.cell in
    let run = rw (c.in_ok-index_cell.ensures.kept, so_far.kept) at c.in_ok-reach.ensures.run in
    EndsAt-in_step so_far.equal
    (seen-fast_block _ _ _ c.loop-block.block (omega arith) (omega arith) (sym is ∙ ap (λ o. Some o) (sym c.from-offset.ensures)))
    (omega arith) (omega arith) _ c.if-reach-len.true run

pub loop-block-preserved-then-eq : goal.loop-block-preserved-then-eq
loop-block-preserved-then-eq g c =
    let so_far = c.loop-block.invariant in
    let is = rw so_far.kept at c.in_ok-index_cell.ensures.cell in
    let here = sym is ∙ ap (λ o. Some o) (sym c.from-offset.ensures) in
    let same : c.loop-block.remembered ≡ Some c.from-offset.result = search rules in
    record {
      kept = cc;
      equal = over _ _ _ c.loop-block.block {len = c.min-len.result} so_far.equal (omega arith) (omega arith) (omega arith) here
          (λ i a lt. so_far.remembered (omega arith) _ same i a (omega (arith, lt)))
          (min ((c.loop-block.block + 1) * 64) (fast_end c.args.self.now.header.now)) (omega arith);
      remembered = λ fits. so_far.remembered (omega (arith, fits));
      last = λ _. let back : c.loop-block.block + 1 - 1 ≡ c.loop-block.block = omega arith in rw back (same ∙ sym here);
      reads = λ coherent shared.
          let before = so_far.reads coherent shared in
          let counted = c.in_ok-index_cell.ensures.counted in
          omega (arith, before, counted);
    }

pub loop-block-preserved : goal.loop-block-preserved
loop-block-preserved g c =
    let so_far = c.loop-block.invariant in
    let whole = c.if-reach-len.false in
    let is = rw so_far.kept at c.in_ok-index_cell.ensures.cell in
    let here = sym is ∙ ap (λ o. Some o) (sym c.from-offset.ensures) in
    let run = rw (c.in_ok-index_cell.ensures.kept, so_far.kept) at c.in_ok-reach.ensures.run in
    let other : c.loop-block.remembered ≢ Some c.from-offset.result = search rules in
    let held = λ (i : ℕ) (a : 0 ≤ i) (lt : i < c.min-len.result). run.equal i a (omega (arith, lt, whole)) in
    let goes_over = over _ _ _ c.loop-block.block {len = c.min-len.result} so_far.equal (omega arith) (omega arith) (omega arith) here
    held in
    record {
      kept = cc;
      equal = goes_over (min ((c.loop-block.block + 1) * 64) (fast_end c.args.self.now.header.now)) (omega arith);
      remembered = λ fits o e i a lt.
          let same : c.from-offset.result ≡ o = cc in
          rw (sym same) (held i a (omega (arith, fits, lt)));
      last = λ _. let back : c.loop-block.block + 1 - 1 ≡ c.loop-block.block = omega arith in rw back (sym here);
      reads = λ coherent shared.
          let aligned = (ends-aligned coherent shared).1 in
          let read = c.in_ok-reach.ensures.reads in
          let counted = c.in_ok-index_cell.ensures.counted in
          reads_after coherent shared c.args.start c.loop-block.block c.from-offset.result _ _ _ c.args.self.now.value
          c.loop-block.remembered (omega (arith, aligned)) (omega (arith, aligned)) here (omega arith)
          (goes_over (c.loop-block.block * 64 + 64) (omega (arith, aligned)))
          (λ two. so_far.last (omega (arith, two))) (so_far.reads coherent shared)
          (omega (arith, read, counted)) other;
    }
