use Rattle.std.proofs.Common.{rules, ◌≡◌, ℕ, ◌-◌, ◌*◌, ◌/◌, ◌∷◌, [], ◌++◌, Err, get_or, length, arith, ap, ◌∙◌}
use Rattle.std.proofs.lemmas.List.{get_or_read}
use Rattle.icu_trie_builder.specs.declared.error.BuildError.TheVariants.{TooLarge}
use Rattle.icu_trie_builder.proofs.IndexLemmas.Indexing.{block-fit, indexing-again, indexing-full, indexing-short, indexing-step, indexing-tight}
use Rattle.icu_trie_builder.proofs.CompactionLemmas.Windows.{length-window}
use Rattle.icu_trie_builder.proofs.index.index3.place_index3.Goals as goal

pub place_offsets-requires-clause-offsets : goal.place_offsets-requires-clause-offsets
place_offsets-requires-clause-offsets c =
    let n : ℕ = c.loop-number.number in
    ap length c.block_at-wanted.ensures ∙ length-window 32 (32 * n) c.args.offsets.now (omega arith)

pub place_offsets-requires-clause-offsets_fit : goal.place_offsets-requires-clause-offsets_fit
place_offsets-requires-clause-offsets_fit c =
    let n : ℕ = c.loop-number.number in
    rw c.block_at-wanted.ensures (block-fit 0x40000 32 n c.args.offsets.now c.requires.offsets_fit (omega arith))

pub returns-in_err-cell-clause-too_large : goal.returns-in_err-cell-clause-too_large
returns-in_err-cell-clause-too_large c = λ e.
    let is : c.in_err-cell.field-0.0 ≡ TooLarge = search rules in
    let t = rw c.block_at-wanted.ensures at (c.in_err-cell.ensures.too_large (ap (λ x. Err x) is)) in
    indexing-full _ _ _ _ _ _ c.loop-number.invariant.indexing (omega arith) (length c.args.offsets.now / 32) (omega arith) t.1 t.0

pub loop-number-preserved-then-repeats : goal.loop-number-preserved-then-repeats
loop-number-preserved-then-repeats c =
    let n : ℕ = c.loop-number.number in
    let v = c.loop-number.invariant in
    let cells = c.loop-number.cells.items in
    let same = c.repeats.ensures c.if-repeats.true in
    let last : c.index.result.now ≡ get_or cells (n - 1) 0 =
    get_or_read cells (n - 1) c.index.result.now (omega (arith, v.indexing.count, same.0)) c.index.ensures 0 in
    record {
      fast = v.fast;
      indexing = indexing-again _ _ _ _ _ _ v.indexing (omega arith) c.push.new.self.items same.0 same.1
          (c.in_ok-push.ensures.items ∙ ap (λ x. cells ++ x ∷ []) last);
    }

pub loop-number-preserved : goal.loop-number-preserved
loop-number-preserved c =
    let v = c.loop-number.invariant in
    let kept = c.in_ok-cell.ensures.fast in
    record {
      fast = kept ∙ v.fast;
      indexing = rw kept (indexing-step _ _ _ _ _ _ v.indexing (omega arith) c.in_ok-cell.cell c.place_offsets.new.store
          c.push-in-loop-number.new.self.items (rw c.block_at-wanted.ensures at c.in_ok-cell.ensures.placed) c.in_ok-push-2.ensures.items);
    }

pub returns-clause-short : goal.returns-clause-short
returns-clause-short c =
    let n : c.loop-number.number ≡ length c.args.offsets.now / 32 = omega arith in
    rw (← n) (indexing-short _ _ _ _ _ _ c.loop-number.invariant.indexing)

pub returns-clause-tight : goal.returns-clause-tight
returns-clause-tight c =
    let n : c.loop-number.number ≡ length c.args.offsets.now / 32 = omega arith in
    rw (← n) (indexing-tight _ _ _ _ _ _ c.loop-number.invariant.indexing)
