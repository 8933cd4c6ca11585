use Rattle.std.proofs.Common.{rules, arith, sym, ap, ◌∙◌, ◌≡◌, None, Some}
use Rattle.icu_trie_core.proofs.AnswerLemmas.{fast_answer, fast_none}
use Rattle.icu_trie_core.proofs.RangeLemmas.{GivesWalk-from_none, GivesWalk-from_break, GivesWalk-from_ends}
use Rattle.icu_trie_core.proofs.walk.walk_fast.Goals as goal

pub returns-in_err-index_cell-clause-gives : goal.returns-in_err-index_cell-clause-gives
returns-in_err-index_cell-clause-gives g c =
    let none : c.from_residual.result ≡ None = search rules in
    rw none (GivesWalk-from_none _ _ _ _ _
    (fast_none c.args.header.now (g.C.Cells.contents c.args.cells.now).index
    (g.C.Cells.contents c.args.cells.now).values c.args.c (omega arith) c.requires.fast
    (sym c.in_err-index_cell.ensures.cell)))

pub returns-in_err-value-clause-gives : goal.returns-in_err-value-clause-gives
returns-in_err-value-clause-gives g c =
    let none : c.from_residual-in_err-value.result ≡ None = search rules in
    let here = sym c.in_ok-index_cell.ensures.cell ∙ ap (λ o. Some o) (sym c.from-offset.ensures) in
    let cell = rw c.in_ok-index_cell.ensures.kept at c.in_err-value.ensures.cell in
    rw none (GivesWalk-from_none _ _ _ _ _
    (fast_answer c.args.header.now (g.C.Cells.contents c.args.cells.now).index
    (g.C.Cells.contents c.args.cells.now).values c.args.c c.from-offset.result (omega arith) c.requires.fast here
    ∙ sym cell))

pub returns-in_err-end-clause-gives : goal.returns-in_err-end-clause-gives
returns-in_err-end-clause-gives g c =
    let none : c.from_residual-in_err-end.result ≡ None = search rules in
    let here = sym c.in_ok-index_cell.ensures.cell ∙ ap (λ o. Some o) (sym c.from-offset.ensures) in
    let cell = rw c.in_ok-index_cell.ensures.kept at c.in_ok-value.ensures.cell in
    let is = fast_answer c.args.header.now (g.C.Cells.contents c.args.cells.now).index
    (g.C.Cells.contents c.args.cells.now).values c.args.c c.from-offset.result (omega arith) c.requires.fast here
    ∙ sym cell in
    let run = rw (c.in_ok-value.ensures.kept, c.in_ok-index_cell.ensures.kept) at c.in_err-end.ensures.run in
    rw none (GivesWalk-from_break _ _ _ _ _ c.in_ok-value.value is (omega arith) run)

pub returns-clause-gives : goal.returns-clause-gives
returns-clause-gives g c =
    let here = sym c.in_ok-index_cell.ensures.cell ∙ ap (λ o. Some o) (sym c.from-offset.ensures) in
    let cell = rw c.in_ok-index_cell.ensures.kept at c.in_ok-value.ensures.cell in
    let is = fast_answer c.args.header.now (g.C.Cells.contents c.args.cells.now).index
    (g.C.Cells.contents c.args.cells.now).values c.args.c c.from-offset.result (omega arith) c.requires.fast here
    ∙ sym cell in
    let run = rw (c.in_ok-value.ensures.kept, c.in_ok-index_cell.ensures.kept) at c.in_ok-end.ensures.run in
    let range = c.range_up_to.ensures in
    GivesWalk-from_ends _ _ _ _ _ c.range_up_to.result.range c.range_up_to.result.value c.in_ok-end.end range.first
    range.last range.fresh (rw range.same is) (omega arith) (omega arith) (rw range.same run)
