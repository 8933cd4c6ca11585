use Rattle.std.proofs.Common.{rules, arith, ◌≡◌, ℕ, ◌+◌, ◌-◌, ◌*◌, ◌/◌, ◌<◌, ◌≤◌, Option, Some, None, min}
use Rattle.icu_trie_core.specs.Coherence.{IsCoherent, IsShared}
use Rattle.icu_trie_core.specs.Contents.{Contents}
use Rattle.icu_trie_core.specs.Format.{fast_limit, index2_cell}
use Rattle.icu_trie_core.specs.Inside.Walk.{SharesBlocks, blocks_end, cell_seen}
use Rattle.icu_trie_core.specs.Seen.{seen}
use Rattle.icu_trie_core.specs.declared.header.CodePointTrieHeader.{CodePointTrieHeader}
use Rattle.icu_trie_core.proofs.AnswerLemmas.{fast_limit_most}
use Rattle.icu_trie_core.proofs.ReachLemmas.{Holds-nothing, EndsAt-in_block, BreaksOff-in_block, Holds-over_block, Reaches-after}
use Rattle.icu_trie_core.proofs.SeenLemmas.{seen-cell}
use Rattle.icu_trie_core.proofs.SharedLemmas.{SharesBlocks-from_shared, ends-aligned}
use Rattle.icu_trie_core.proofs.extend.Walk.extend_from_small.Goals as goal

module _ {A : Type 0} (of_number : ℕ → Option A) (h : CodePointTrieHeader) (cells : Contents A) {c cell : ℕ}
    (begun : c < blocks_end h) (from : fast_limit h.trie_type ≤ c)
    (block : index2_cell h.trie_type cells.index (c / 512 * 512) ≡ Some cell) where
  -- In that block, what a walk sees up to the end of the blocks is determined by its index-2 cell.
  agree : {len : ℕ} → len ≡ min (blocks_end h - c / 512 * 512) 512
      → (i : ℕ) → i < len → seen of_number h cells (c / 512 * 512 + i) ≡ cell_seen of_number h cells cell i
  agree {len} is =
      let most = (fast_limit_most h.trie_type).1 in
      seen-cell of_number h cells (c / 512 * 512) (omega arith) (omega (arith, from, most)) (omega (arith, is, begun))
      (omega (arith, is)) block

  -- In a coherent and shared trie, the block is whole, and its blocks of 16 are shared.
  shares : IsCoherent of_number h cells → IsShared h cells
      → (min (blocks_end h - c / 512 * 512) 512 ≡ 512) × SharesBlocks of_number h cells cell
  shares coherent shared =
      let most = (fast_limit_most h.trie_type).1 in
      let aligned = (ends-aligned coherent shared).0 in (
        omega (arith, aligned, begun),
        SharesBlocks-from_shared coherent shared (c / 512 * 512) cell (omega arith)
            (omega (arith, from, most)) (omega (arith, begun, aligned)) block,
      )

pub returns-in_err-reach-clause-run : goal.returns-in_err-reach-clause-run
returns-in_err-reach-clause-run g c =
    let none : c.from_residual.result ≡ None = search rules in
    let r = c.requires in
    rw none (BreaksOff-in_block (Holds-nothing _ _ (omega arith)) (agree _ _ _ r.begun r.from r.block (omega arith)) (omega arith) 1114112
    (omega arith) c.in_err-reach.ensures.run)

pub returns-then-reach-len-clause-run : goal.returns-then-reach-len-clause-run
returns-then-reach-len-clause-run g c =
    let r = c.requires in
    EndsAt-in_block (Holds-nothing _ _ (omega arith)) (agree _ _ _ r.begun r.from r.block (omega arith)) (omega arith) 1114112
    c.in_ok-reach.reach (omega arith) c.if-reach-len.true c.in_ok-reach.ensures.run

pub returns-clause-run : goal.returns-clause-run
returns-clause-run g c =
    let r = c.requires in
    let rest = rw c.in_ok-reach.ensures.kept at c.extend_to_end.ensures.run in
    Reaches-after _ c.args.c (c.args.c / 512 * 512 + c.min-len.result) 1114112 c.args.self.now.value c.extend_to_end.result
    (Holds-over_block (Holds-nothing _ _ (omega arith)) (agree _ _ _ r.begun r.from r.block (omega arith)) (omega arith)
    (c.args.c / 512 * 512 + c.min-len.result) c.in_ok-reach.reach c.in_ok-reach.ensures.run c.if-reach-len.false (omega arith))
    (omega arith) rest

pub returns-in_err-reach-clause-reads : goal.returns-in_err-reach-clause-reads
returns-in_err-reach-clause-reads g c = λ coherent shared.
    let r = c.requires in
    let both = shares _ _ _ r.begun r.from r.block coherent shared in
    let whole = both.0 in
    let read = c.in_err-reach.ensures.reads both.1 (omega (arith, whole)) in
    omega (arith, read)

pub returns-then-reach-len-clause-reads : goal.returns-then-reach-len-clause-reads
returns-then-reach-len-clause-reads g c = λ coherent shared.
    let r = c.requires in
    let both = shares _ _ _ r.begun r.from r.block coherent shared in
    let whole = both.0 in
    let read = c.in_ok-reach.ensures.reads both.1 (omega (arith, whole)) in
    omega (arith, read)

pub returns-clause-reads : goal.returns-clause-reads
returns-clause-reads g c = λ coherent shared.
    let r = c.requires in
    let both = shares _ _ _ r.begun r.from r.block coherent shared in
    let whole = both.0 in
    let read = c.in_ok-reach.ensures.reads both.1 (omega (arith, whole)) in
    let rest = rw c.in_ok-reach.ensures.kept at c.extend_to_end.ensures.reads in
    let more = rest coherent shared in
    omega (arith, read, more)
