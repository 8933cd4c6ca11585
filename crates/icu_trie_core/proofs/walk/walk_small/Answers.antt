use Rattle.std.proofs.Common.{rules, arith, sym, ◌∙◌, ◌≡◌, None}
use Rattle.icu_trie_core.proofs.AnswerLemmas.{small_answer, small_none, small_offset_in, small_offset_missing}
use Rattle.icu_trie_core.proofs.RangeLemmas.{GivesWalk-from_none, GivesWalk-from_break, GivesWalk-from_ends}
use Rattle.icu_trie_core.proofs.walk.walk_small.Goals as goal

pub returns-in_err-cell-clause-gives : goal.returns-in_err-cell-clause-gives
returns-in_err-cell-clause-gives g c =
    let none : c.from_residual.result ≡ None = search rules in
    let missing = small_offset_missing c.args.header.now.trie_type (g.C.Cells.contents c.args.cells.now).index c.args.c
    (sym c.in_err-cell.ensures.cell) in
    rw none (GivesWalk-from_none _ _ _ _ _
    (small_none c.args.header.now (g.C.Cells.contents c.args.cells.now).index
    (g.C.Cells.contents c.args.cells.now).values c.args.c (omega arith) c.requires.from (omega arith)
    missing))

pub returns-in_err-offset-clause-gives : goal.returns-in_err-offset-clause-gives
returns-in_err-offset-clause-gives g c =
    let none : c.from_residual-in_err-offset.result ≡ None = search rules in
    let two = sym c.in_ok-cell.ensures.cell in
    let place = small_offset_in c.args.header.now.trie_type (g.C.Cells.contents c.args.cells.now).index c.args.c c.in_ok-cell.cell two in
    let offset = rw c.in_ok-cell.ensures.kept at c.in_err-offset.ensures.offset in
    rw none (GivesWalk-from_none _ _ _ _ _
    (small_none c.args.header.now (g.C.Cells.contents c.args.cells.now).index
    (g.C.Cells.contents c.args.cells.now).values c.args.c (omega arith) c.requires.from (omega arith)
    (place ∙ sym offset)))

pub returns-in_err-value-clause-gives : goal.returns-in_err-value-clause-gives
returns-in_err-value-clause-gives g c =
    let none : c.from_residual-in_err-value.result ≡ None = search rules in
    let two = sym c.in_ok-cell.ensures.cell in
    let place = small_offset_in c.args.header.now.trie_type (g.C.Cells.contents c.args.cells.now).index c.args.c c.in_ok-cell.cell two in
    let offset = rw c.in_ok-cell.ensures.kept at c.in_ok-offset.ensures.offset in
    let cell = rw (c.in_ok-offset.ensures.kept, c.in_ok-cell.ensures.kept) at c.in_err-value.ensures.cell in
    let is = small_answer c.args.header.now (g.C.Cells.contents c.args.cells.now).index
    (g.C.Cells.contents c.args.cells.now).values c.args.c c.in_ok-offset.offset (omega arith) c.requires.from
    (omega arith) (place ∙ sym offset) ∙ sym cell in
    rw none (GivesWalk-from_none _ _ _ _ _ is)

pub returns-in_err-end-clause-gives : goal.returns-in_err-end-clause-gives
returns-in_err-end-clause-gives g c =
    let none : c.from_residual-in_err-end.result ≡ None = search rules in
    let two = sym c.in_ok-cell.ensures.cell in
    let place = small_offset_in c.args.header.now.trie_type (g.C.Cells.contents c.args.cells.now).index c.args.c c.in_ok-cell.cell two in
    let offset = rw c.in_ok-cell.ensures.kept at c.in_ok-offset.ensures.offset in
    let cell = rw (c.in_ok-offset.ensures.kept, c.in_ok-cell.ensures.kept) at c.in_ok-value.ensures.cell in
    let is = small_answer c.args.header.now (g.C.Cells.contents c.args.cells.now).index
    (g.C.Cells.contents c.args.cells.now).values c.args.c c.in_ok-offset.offset (omega arith) c.requires.from
    (omega arith) (place ∙ sym offset) ∙ sym cell in
    let run = rw (c.in_ok-value.ensures.kept, c.in_ok-offset.ensures.kept, c.in_ok-cell.ensures.kept) at
    c.in_err-end.ensures.run in
    rw none (GivesWalk-from_break _ _ _ _ _ c.in_ok-value.value is (omega arith) run)

pub returns-clause-gives : goal.returns-clause-gives
returns-clause-gives g c =
    let two = sym c.in_ok-cell.ensures.cell in
    let place = small_offset_in c.args.header.now.trie_type (g.C.Cells.contents c.args.cells.now).index c.args.c c.in_ok-cell.cell two in
    let offset = rw c.in_ok-cell.ensures.kept at c.in_ok-offset.ensures.offset in
    let cell = rw (c.in_ok-offset.ensures.kept, c.in_ok-cell.ensures.kept) at c.in_ok-value.ensures.cell in
    let is = small_answer c.args.header.now (g.C.Cells.contents c.args.cells.now).index
    (g.C.Cells.contents c.args.cells.now).values c.args.c c.in_ok-offset.offset (omega arith) c.requires.from
    (omega arith) (place ∙ sym offset) ∙ sym cell in
    let run = rw (c.in_ok-value.ensures.kept, c.in_ok-offset.ensures.kept, c.in_ok-cell.ensures.kept) at
    c.in_ok-end.ensures.run in
    let range = c.range_up_to.ensures in
    GivesWalk-from_ends _ _ _ _ _ c.range_up_to.result.range c.range_up_to.result.value c.in_ok-end.end range.first
    range.last range.fresh (rw range.same is) (omega arith) (omega arith) (rw range.same run)
