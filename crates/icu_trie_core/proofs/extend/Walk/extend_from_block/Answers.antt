use Rattle.std.proofs.Common.{rules, arith, ◌≡◌, ◌+◌, ◌*◌, ◌/◌, None}
use Rattle.icu_trie_core.proofs.ReachLemmas.{Holds-nothing, EndsAt-by_block, BreaksOff-in_block, Holds-over_block, Reaches-after}
use Rattle.icu_trie_core.proofs.SeenLemmas.{cell_seen-block}
use Rattle.icu_trie_core.proofs.extend.Walk.extend_from_block.Goals as goal

pub returns-in_err-reach-clause-run : goal.returns-in_err-reach-clause-run
returns-in_err-reach-clause-run g c =
    let none : c.from_residual.result ≡ None = search rules in
    rw none (BreaksOff-in_block (Holds-nothing _ _ (omega arith))
    (cell_seen-block _ _ _ c.args.cell (c.args.range.start / 16) c.if-cell-self.true (omega arith) c.requires.here) (omega arith)
    c.args.range.end (omega arith) c.in_err-reach.ensures.run)

pub returns-then-reach-lt-SMALL_DATA_BLOCK_LENGTH-clause-run : goal.returns-then-reach-lt-SMALL_DATA_BLOCK_LENGTH-clause-run
returns-then-reach-lt-SMALL_DATA_BLOCK_LENGTH-clause-run g c =
    EndsAt-by_block (Holds-nothing _ _ (omega arith))
    (cell_seen-block _ _ _ c.args.cell (c.args.range.start / 16) c.if-cell-self.true (omega arith) c.requires.here) (omega arith)
    c.args.range.end c.in_ok-reach.reach (omega arith) (λ whole. omega (arith, whole)) c.in_ok-reach.ensures.run

pub returns-then-cell-self-clause-run : goal.returns-then-cell-self-clause-run
returns-then-cell-self-clause-run g c =
    let run = c.in_ok-reach.ensures.run in
    let within = run.within in
    let rest = rw c.in_ok-reach.ensures.kept at c.extend_index3.ensures.run in
    Reaches-after _ c.args.range.start (c.args.range.start / 16 * 16 + 16) c.args.range.end c.args.self.now.value
    c.extend_index3.result
    (Holds-over_block (Holds-nothing _ _ (omega arith))
    (cell_seen-block _ _ _ c.args.cell (c.args.range.start / 16) c.if-cell-self.true (omega arith) c.requires.here) (omega arith)
    (c.args.range.start / 16 * 16 + 16) c.in_ok-reach.reach run (omega (arith, within)) (omega (arith, within)))
    (omega arith) rest
