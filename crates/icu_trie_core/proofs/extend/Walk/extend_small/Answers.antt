use Rattle.std.proofs.Common.{rules, arith, sym, ap, ◌∙◌, ◌≡◌, ◌≢◌, ◌<◌, ◌≤◌, ℕ, ◌+◌, ◌-◌, ◌*◌, Option, Some, None, min, refl, inl, inr}
use Rattle.std.specs.Option.{option_len}
use Rattle.icu_trie_core.specs.Coherence.{IsCoherent, IsShared}
use Rattle.icu_trie_core.specs.Contents.{Contents}
use Rattle.icu_trie_core.specs.Format.{fast_limit, index2_cell}
use Rattle.icu_trie_core.specs.Inside.Walk.{Holds, SharesBlocks, blocks_end, cell_seen}
use Rattle.icu_trie_core.specs.Seen.{seen}
use Rattle.icu_trie_core.specs.declared.header.CodePointTrieHeader.{CodePointTrieHeader}
use Rattle.icu_trie_core.proofs.AnswerLemmas.{none_or_some, option_len_most}
use Rattle.icu_trie_core.proofs.ReachLemmas.{EndsAt-in_step, BreaksOff-in_step, Holds-over_step, BreaksOff-at}
use Rattle.icu_trie_core.proofs.SeenLemmas.{seen-cell, seen-cell_missing}
use Rattle.icu_trie_core.proofs.SharedLemmas.{SharesBlocks-from_shared, ends-aligned, same_cell}
use Rattle.icu_trie_core.proofs.extend.Walk.extend_small.Goals as goal

-- The value continues over a block of 512.
over : {A : Type 0} (of_number : ℕ → Option A) (h : CodePointTrieHeader) (cells : Contents A) {start : ℕ} {value : A} (block : ℕ)
    {cell len : ℕ} → Holds (seen of_number h cells) start (min (block * 512) (blocks_end h)) value → fast_limit h.trie_type ≤ start
    → start ≤ block * 512 → block * 512 + len ≤ blocks_end h → len ≤ 512
    → index2_cell h.trie_type cells.index (block * 512) ≡ Some cell → Holds (cell_seen of_number h cells cell) 0 len value
    → (next : ℕ) → next ≤ block * 512 + len → Holds (seen of_number h cells) start next value
over of_number h cells block came from begun fits short here =
    Holds-over_step came (seen-cell of_number h cells (block * 512) (omega arith) (omega (arith, from, begun)) fits short here) begun fits

-- Over a coherent and shared trie, a block of 512 is whole, and its blocks of 16 are shared.
shares : {A : Type 0} {of_number : ℕ → Option A} {h : CodePointTrieHeader} {cells : Contents A} (block : ℕ) {cell : ℕ}
    → IsCoherent of_number h cells → IsShared h cells → fast_limit h.trie_type ≤ block * 512 → block * 512 < blocks_end h
    → index2_cell h.trie_type cells.index (block * 512) ≡ Some cell
    → (min (blocks_end h - block * 512) 512 ≡ 512) × SharesBlocks of_number h cells cell
shares block {cell} coherent shared from here is =
    let aligned = (ends-aligned coherent shared).0 in (
      omega (arith, aligned, here),
      SharesBlocks-from_shared coherent shared (block * 512) cell (omega arith) from (omega (arith, here, aligned)) is,
    )

pub returns-in_err-cell-clause-run : goal.returns-in_err-cell-clause-run
returns-in_err-cell-clause-run g c =
    let none : c.from_residual.result ≡ None = search rules in
    let is = rw c.loop-block.invariant.kept at c.in_err-cell.ensures.cell in
    rw none (BreaksOff-at c.loop-block.invariant.equal (omega arith) (omega arith)
    (seen-cell_missing _ _ _ _ (c.loop-block.block * 512) (omega arith) (omega arith) (omega arith) (sym is)))

pub returns-in_err-reach-clause-run : goal.returns-in_err-reach-clause-run
returns-in_err-reach-clause-run g c =
    let none : c.from_residual-in_err-reach.result ≡ None = search rules in
    let so_far = c.loop-block.invariant in
    let is = rw so_far.kept at c.in_ok-cell.ensures.cell in
    let run = rw (c.in_ok-cell.ensures.kept, so_far.kept) at c.in_err-reach.ensures.run in
    rw none (BreaksOff-in_step so_far.equal
    (seen-cell _ _ _ (c.loop-block.block * 512) (omega arith) (omega arith) (omega arith) (omega arith) (sym is))
    (omega arith) (omega arith) run)

pub returns-then-reach-len-clause-run : goal.returns-then-reach-len-clause-run
returns-then-reach-len-clause-run g c =
    let so_far = c.loop-block.invariant in
    let is = rw so_far.kept at c.in_ok-cell.ensures.cell in
    let run = rw (c.in_ok-cell.ensures.kept, so_far.kept) at c.in_ok-reach.ensures.run in
    EndsAt-in_step so_far.equal
    (seen-cell _ _ _ (c.loop-block.block * 512) (omega arith) (omega arith) (omega arith) (omega arith) (sym is))
    (omega arith) (omega arith) _ c.if-reach-len.true run

pub returns-in_err-reach-clause-reads : goal.returns-in_err-reach-clause-reads
returns-in_err-reach-clause-reads g c = λ coherent shared.
    let so_far = c.loop-block.invariant in
    let is = rw so_far.kept at c.in_ok-cell.ensures.cell in
    let counted = rw (c.in_ok-cell.ensures.kept, so_far.kept) at c.in_err-reach.ensures.reads in
    let both = shares c.loop-block.block coherent shared (omega arith) (omega arith) (sym is) in
    let whole = both.0 in
    let read = counted both.1 (omega (arith, whole)) in
    let before = so_far.reads coherent shared in
    let found = c.in_ok-cell.ensures.reads in
    let one = option_len_most c.loop-block.remembered in
    omega (arith, before, found, read, one)

pub returns-then-reach-len-clause-reads : goal.returns-then-reach-len-clause-reads
returns-then-reach-len-clause-reads g c = λ coherent shared.
    let so_far = c.loop-block.invariant in
    let is = rw so_far.kept at c.in_ok-cell.ensures.cell in
    let counted = rw (c.in_ok-cell.ensures.kept, so_far.kept) at c.in_ok-reach.ensures.reads in
    let both = shares c.loop-block.block coherent shared (omega arith) (omega arith) (sym is) in
    let whole = both.0 in
    let read = counted both.1 (omega (arith, whole)) in
    let before = so_far.reads coherent shared in
    let found = c.in_ok-cell.ensures.reads in
    let one = option_len_most c.loop-block.remembered in
    omega (arith, before, found, read, one)

pub loop-block-preserved-then-eq : goal.loop-block-preserved-then-eq
loop-block-preserved-then-eq g c =
    let so_far = c.loop-block.invariant in
    let is = rw so_far.kept at c.in_ok-cell.ensures.cell in
    let same : c.loop-block.remembered ≡ Some c.in_ok-cell.cell = search rules in
    record {
      kept = cc;
      equal = over _ _ _ c.loop-block.block {len = c.min-len.result} so_far.equal c.requires.from (omega arith) (omega arith) (omega arith)
          (sym is) (λ i a lt. so_far.remembered (omega arith) _ same i a (omega (arith, lt)))
          (min ((c.loop-block.block + 1) * 512) (blocks_end c.args.self.now.header.now)) (omega arith);
      remembered = λ next. so_far.remembered (omega (arith, next));
      stands = λ o e. (c.loop-block.block, omega arith, omega arith, sym is ∙ (sym same ∙ e));
      reads = λ coherent shared.
          let before = so_far.reads coherent shared in
          let found = c.in_ok-cell.ensures.reads in
          omega (arith, before, found);
    }

pub loop-block-preserved : goal.loop-block-preserved
loop-block-preserved g c =
    let so_far = c.loop-block.invariant in
    let whole = c.if-reach-len.false in
    let is = rw so_far.kept at c.in_ok-cell.ensures.cell in
    let run = rw (c.in_ok-cell.ensures.kept, so_far.kept) at c.in_ok-reach.ensures.run in
    let other : c.loop-block.remembered ≢ Some c.in_ok-cell.cell = search rules in
    let held = λ (i : ℕ) (a : 0 ≤ i) (lt : i < c.min-len.result). run.equal i a (omega (arith, lt, whole)) in
    let goes_over = over _ _ _ c.loop-block.block {len = c.min-len.result} so_far.equal c.requires.from (omega arith) (omega arith)
    (omega arith) (sym is) held in
    record {
      kept = cc;
      equal = goes_over (min ((c.loop-block.block + 1) * 512) (blocks_end c.args.self.now.header.now)) (omega arith);
      remembered = λ next o e i a lt.
          let same : c.in_ok-cell.cell ≡ o = cc in
          rw (sym same) (held i a (omega (arith, next, lt)));
      stands = λ o e. let same : c.in_ok-cell.cell ≡ o = cc in
          (c.loop-block.block, omega arith, omega arith, sym is ∙ ap (λ x. Some x) same);
      reads = λ coherent shared.
          let before = so_far.reads coherent shared in
          let found = c.in_ok-cell.ensures.reads in
          let counted = rw (c.in_ok-cell.ensures.kept, so_far.kept) at c.in_ok-reach.ensures.reads in
          let both = shares c.loop-block.block coherent shared (omega arith) (omega arith) (sym is) in
          let full = both.0 in
          let read = counted both.1 (omega (arith, full)) in
          elim (none_or_some c.loop-block.remembered) [
            | inl p ↦ let zero : option_len c.loop-block.remembered ≡ 0 = rw p refl in omega (arith, before, found, read, zero)
            | inr p ↦
                let s = so_far.stands p.0 p.1 in
                let same = same_cell coherent shared c.args.start s.0 c.loop-block.block c.args.self.now.value c.requires.from s.1 s.2
                (omega (arith, full)) (goes_over (c.loop-block.block * 512 + 512) (omega (arith, full))) in
                absurd (other (p.1 ∙ (sym s.3 ∙ (same ∙ sym is))))
          ];
    }
