use Rattle.std.proofs.Common.{◌≡◌, Err, inl, inr, rules}
use Rattle.std.proofs.lemmas.Result.{IfErr-weaker, IfOk-weaker}
use Rattle.ucptab_table.specs.TableText.{AreRows}
use Rattle.ucptab_table.specs.declared.error.TableError.TheVariants.{Row, TooLarge}
use Rattle.ucptrie_tables.specs.Tables.{IsWhyNoTableOfWrites}
use Rattle.ucptrie_tables.specs.declared.error.TableBuildError.TheVariants.{Table}
use Rattle.ucptrie_tables.proofs.TableLemmas.{table_of_rows, why_of_rows}
use Rattle.ucptrie_tables.proofs.table.table_of_rows.Goals as goal

pub returns-in_err-writes-clause-err : goal.returns-in_err-writes-clause-err
returns-in_err-writes-clause-err c =
    let given : c.from_residual.result ≡ Err (Table c.in_err-writes.field-0.0) = search rules in
    elim c.in_err-writes.ensures.no_other [
      | inl memory ↦ rw (given, memory) tt
      | inr row ↦ rw (given, row.1.1) (c.in_err-writes.ensures.row row.0 row.1.0 row.1.1)
    ]

pub returns-in_err-writes-clause-row : goal.returns-in_err-writes-clause-row
returns-in_err-writes-clause-row c = λ k f is.
    let given : c.from_residual.result ≡ Err (Table c.in_err-writes.field-0.0) = search rules in
    let same : c.in_err-writes.field-0.0 ≡ Row k f = cc in
    c.in_err-writes.ensures.row k f same

pub returns-clause-ok : goal.returns-clause-ok
returns-clause-ok c =
    let rows : AreRows c.args.rows.now c.deref.result.now = rw c.deref.ensures.value c.in_ok-writes.ensures.ok in
    IfOk-weaker c.table_of_writes.result _ _ (λ t h. table_of_rows c.args.rows.now c.deref.result.now rows c.args.options t h)
    c.table_of_writes.ensures.ok

pub returns-clause-err : goal.returns-clause-err
returns-clause-err c =
    let rows : AreRows c.args.rows.now c.deref.result.now = rw c.deref.ensures.value c.in_ok-writes.ensures.ok in
    IfErr-weaker c.table_of_writes.result _ _ (λ e h. why_of_rows c.args.rows.now c.deref.result.now rows c.args.options e h)
    c.table_of_writes.ensures.err

pub returns-clause-row : goal.returns-clause-row
returns-clause-row c = λ k f is.
    let none : IsWhyNoTableOfWrites c.deref.result.now c.args.options (Table (Row k f)) = rw is at c.table_of_writes.ensures.err in
    absurd none

pub returns-clause-too_large : goal.returns-clause-too_large
returns-clause-too_large c = λ is.
    let large : IsWhyNoTableOfWrites c.deref.result.now c.args.options (Table TooLarge) = rw is at c.table_of_writes.ensures.err in
    (c.deref.result.now, (rw c.deref.ensures.value c.in_ok-writes.ensures.ok, large))
