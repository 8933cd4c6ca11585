use Rattle.std.proofs.Common.{rules, arith, ◌≡◌, ℕ, ◌+◌, ◌-◌, ◌*◌, ◌/◌, ◌<◌, Option, Some, None, slice_get, min}
use Rattle.icu_trie_core.specs.Contents.{Contents}
use Rattle.icu_trie_core.specs.Format.{fast_limit}
use Rattle.icu_trie_core.specs.Inside.Walk.{block_seen, blocks_end}
use Rattle.icu_trie_core.specs.Seen.{seen}
use Rattle.icu_trie_core.specs.declared.header.CodePointTrieHeader.{CodePointTrieHeader}
use Rattle.icu_trie_core.proofs.AnswerLemmas.{fast_limit_most}
use Rattle.icu_trie_core.proofs.ReachLemmas.{Holds-nothing, EndsAt-in_block, BreaksOff-in_block, Holds-over_block, Reaches-after}
use Rattle.icu_trie_core.proofs.SeenLemmas.{seen-fast_block}
use Rattle.icu_trie_core.proofs.extend.Walk.extend_from_fast.Goals as goal

-- In the block of 64 that contains c, a walk sees the data cells up to the end of the blocks.
agree : {A : Type 0} (of_number : ℕ → Option A) (h : CodePointTrieHeader) (cells : Contents A) {c offset len : ℕ} → c < blocks_end h
    → c < fast_limit h.trie_type → slice_get cells.index (c / 64) ≡ Some offset → len ≡ min (blocks_end h - c / 64 * 64) 64
    → (i : ℕ) → i < len → seen of_number h cells (c / 64 * 64 + i) ≡ block_seen of_number h cells.values offset i
agree of_number h cells {c} begun fast here is =
    let most = (fast_limit_most h.trie_type).1 in
    seen-fast_block of_number h cells (c / 64) (omega (arith, is, begun, fast, most)) (omega (arith, is)) here

pub returns-in_err-reach-clause-run : goal.returns-in_err-reach-clause-run
returns-in_err-reach-clause-run g c =
    let none : c.from_residual.result ≡ None = search rules in
    let r = c.requires in
    rw none (BreaksOff-in_block (Holds-nothing _ _ (omega arith)) (agree _ _ _ r.begun r.fast r.here (omega arith)) (omega arith) 1114112
    (omega arith) c.in_err-reach.ensures.run)

pub returns-then-reach-len-clause-run : goal.returns-then-reach-len-clause-run
returns-then-reach-len-clause-run g c =
    let r = c.requires in
    EndsAt-in_block (Holds-nothing _ _ (omega arith)) (agree _ _ _ r.begun r.fast r.here (omega arith)) (omega arith) 1114112
    c.in_ok-reach.reach (omega arith) c.if-reach-len.true c.in_ok-reach.ensures.run

pub returns-clause-run : goal.returns-clause-run
returns-clause-run g c =
    let r = c.requires in
    let rest = rw c.in_ok-reach.ensures.kept at c.extend_to_end.ensures.run in
    Reaches-after _ c.args.c (c.args.c / 64 * 64 + c.min-len.result) 1114112 c.args.self.now.value c.extend_to_end.result
    (Holds-over_block (Holds-nothing _ _ (omega arith)) (agree _ _ _ r.begun r.fast r.here (omega arith)) (omega arith)
    (c.args.c / 64 * 64 + c.min-len.result) c.in_ok-reach.reach c.in_ok-reach.ensures.run c.if-reach-len.false (omega arith))
    (omega arith) rest
