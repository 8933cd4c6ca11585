use Rattle.std.proofs.Common.{rules, arith, sym, ap, ◌∙◌, ◌≡◌, ◌≢◌, ◌<◌, ◌≤◌, ℕ, ◌+◌, ◌*◌, Option, Some, None, min, refl, inl, inr}
use Rattle.std.specs.Option.{option_len}
use Rattle.icu_trie_core.specs.Contents.{Contents}
use Rattle.icu_trie_core.specs.Format.{offset_in_block}
use Rattle.icu_trie_core.specs.Inside.Walk.{Holds, block_seen, cell_seen}
use Rattle.icu_trie_core.specs.declared.header.CodePointTrieHeader.{CodePointTrieHeader}
use Rattle.icu_trie_core.proofs.AnswerLemmas.{none_or_some}
use Rattle.icu_trie_core.proofs.ReachLemmas.{EndsAt-in_step, BreaksOff-in_step, Holds-over_step, BreaksOff-at}
use Rattle.icu_trie_core.proofs.SeenLemmas.{cell_seen-block, cell_seen-missing}
use Rattle.icu_trie_core.proofs.extend.Walk.extend_index3.Goals as goal

-- The value continues over a block of 16.
over : {A : Type 0} (of_number : ℕ → Option A) (h : CodePointTrieHeader) (cells : Contents A) {start end : ℕ} {value : A} (cell block : ℕ)
    {offset len : ℕ} → Holds (cell_seen of_number h cells cell) start (min (block * 16) end) value → start ≤ block * 16
    → block * 16 + len ≤ end → len ≤ 16 → cell ≢ h.index3_null_offset → offset_in_block cells.index cell block ≡ Some offset
    → Holds (block_seen of_number h cells.values offset) 0 len value
    → (next : ℕ) → next ≤ block * 16 + len → Holds (cell_seen of_number h cells cell) start next value
over of_number h cells cell block came begun fits short read here =
    Holds-over_step came (cell_seen-block of_number h cells cell block read short here) begun fits

pub returns-in_err-offset-clause-run : goal.returns-in_err-offset-clause-run
returns-in_err-offset-clause-run g c =
    let none : c.from_residual.result ≡ None = search rules in
    let is = rw c.loop-block.invariant.kept at c.in_err-offset.ensures.offset in
    rw none (BreaksOff-at c.loop-block.invariant.equal (omega arith) (omega arith)
    (cell_seen-missing _ _ _ c.args.cell c.loop-block.block c.requires.read (sym is)))

pub returns-in_err-reach-clause-run : goal.returns-in_err-reach-clause-run
returns-in_err-reach-clause-run g c =
    let none : c.from_residual-in_err-reach.result ≡ None = search rules in
    let so_far = c.loop-block.invariant in
    let is = rw so_far.kept at c.in_ok-offset.ensures.offset in
    let run = rw (c.in_ok-offset.ensures.kept, so_far.kept) at c.in_err-reach.ensures.run in
    rw none (BreaksOff-in_step so_far.equal
    (cell_seen-block _ _ _ c.args.cell c.loop-block.block c.requires.read (omega arith) (sym is)) (omega arith) (omega arith) run)

pub returns-then-reach-block_len-clause-run : goal.returns-then-reach-block_len-clause-run
returns-then-reach-block_len-clause-run g c =
    let so_far = c.loop-block.invariant in
    let is = rw so_far.kept at c.in_ok-offset.ensures.offset in
    let run = rw (c.in_ok-offset.ensures.kept, so_far.kept) at c.in_ok-reach.ensures.run in
    EndsAt-in_step so_far.equal
    (cell_seen-block _ _ _ c.args.cell c.loop-block.block c.requires.read (omega arith) (sym is)) (omega arith) (omega arith)
    _ c.if-reach-block_len.true run

pub loop-block-preserved-then-eq : goal.loop-block-preserved-then-eq
loop-block-preserved-then-eq g c =
    let so_far = c.loop-block.invariant in
    let is = rw so_far.kept at c.in_ok-offset.ensures.offset in
    let same : c.loop-block.remembered ≡ Some c.in_ok-offset.offset = search rules in
    record {
      kept = cc;
      equal = over _ _ _ c.args.cell c.loop-block.block {len = c.min-block_len.result} so_far.equal (omega arith) (omega arith)
          (omega arith) c.requires.read (sym is) (λ i a lt. so_far.remembered (omega arith) _ same i a (omega (arith, lt)))
          (min ((c.loop-block.block + 1) * 16) c.args.range.end) (omega arith);
      remembered = λ next. so_far.remembered (omega (arith, next));
      stands = λ o e. (c.loop-block.block, omega arith, omega arith, sym is ∙ (sym same ∙ e));
      reads = λ shares whole_512.
          let before = so_far.reads shares whole_512 in
          let found = c.in_ok-offset.ensures.reads in
          omega (arith, before, found);
    }

pub loop-block-preserved : goal.loop-block-preserved
loop-block-preserved g c =
    let so_far = c.loop-block.invariant in
    let whole = c.if-reach-block_len.false in
    let is = rw so_far.kept at c.in_ok-offset.ensures.offset in
    let run = rw (c.in_ok-offset.ensures.kept, so_far.kept) at c.in_ok-reach.ensures.run in
    let other : c.loop-block.remembered ≢ Some c.in_ok-offset.offset = search rules in
    let held = λ (i : ℕ) (a : 0 ≤ i) (lt : i < c.min-block_len.result). run.equal i a (omega (arith, lt, whole)) in
    let goes_over = over _ _ _ c.args.cell c.loop-block.block {len = c.min-block_len.result} so_far.equal (omega arith) (omega arith)
    (omega arith) c.requires.read (sym is) held in
    let one : option_len (Some c.in_ok-offset.offset) ≡ 1 = refl in
    record {
      kept = cc;
      equal = goes_over (min ((c.loop-block.block + 1) * 16) c.args.range.end) (omega arith);
      remembered = λ next o e i a lt.
          let same : c.in_ok-offset.offset ≡ o = cc in
          rw (sym same) (held i a (omega (arith, next, lt)));
      stands = λ o e. let same : c.in_ok-offset.offset ≡ o = cc in
          (c.loop-block.block, omega arith, omega arith, sym is ∙ ap (λ x. Some x) same);
      reads = λ shares whole_512.
          let before = so_far.reads shares whole_512 in
          let found = c.in_ok-offset.ensures.reads in
          let read = c.in_ok-reach.ensures.reads in
          let holds = goes_over (c.loop-block.block * 16 + 16) (omega (arith, whole_512)) in
          elim (none_or_some c.loop-block.remembered) [
            | inl p ↦ let zero : option_len c.loop-block.remembered ≡ 0 = rw p refl in omega (arith, before, found, read, zero)
            | inr p ↦
                let s = so_far.stands p.0 p.1 in
                let early = s.1 in
                let lt = s.2 in
                let same : offset_in_block (g.C.Cells.contents c.args.cells.now).index c.args.cell s.0
                ≡ offset_in_block (g.C.Cells.contents c.args.cells.now).index c.args.cell c.loop-block.block
                = shares s.0 c.loop-block.block (omega (arith, lt)) (omega arith)
                (λ i d. holds (s.0 * 16 + i) (omega (arith, early)) (omega (arith, lt, d))
                ∙ sym (holds (c.loop-block.block * 16 + i) (omega arith) (omega (arith, d)))) in
                absurd (other (p.1 ∙ (sym s.3 ∙ (same ∙ sym is))))
          ];
    }
