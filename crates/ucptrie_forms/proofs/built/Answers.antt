use Rattle.std.proofs.Common.{◌≡◌, Err, inl, inr, refl, arith, rules}
use Rattle.std.proofs.lemmas.Bool.Decides.{nat_tests}
use Rattle.std.proofs.lemmas.Result.{IfErr-weaker, IfOk-weaker}
use Rattle.icu_trie_builder.specs.Writes.{value_after}
use Rattle.ucptab_table.specs.TableText.{runs_text}
use Rattle.ucptrie_forms.proofs.built.Goals as goal

pub returns-in_err-table-clause-err : goal.returns-in_err-table-clause-err
returns-in_err-table-clause-err c =
    let given : c.from_residual.result ≡ Err c.in_err-table.field-0.0 = search rules in
    rw given (inl c.in_err-table.ensures.err)

pub returns-in_err-table-clause-row : goal.returns-in_err-table-clause-row
returns-in_err-table-clause-row c = λ k f is.
    let given : c.from_residual.result ≡ Err c.in_err-table.field-0.0 = search rules in
    c.in_err-table.ensures.row k f (cc)

pub returns-clause-err : goal.returns-clause-err
returns-clause-err c = IfErr-weaker c.written.result _ _ (λ e why. inr (c.in_ok-table.table, (c.in_ok-table.ensures.ok, why)))
    c.written.ensures.err

pub returns-clause-rows : goal.returns-clause-rows
returns-clause-rows c = λ is.
    let t = c.in_ok-table.ensures.ok.trie in
    let printed = c.written.ensures.rows is t.of_writes.built.coherent (value_after t.writes c.args.options.default)
    (λ u below. grind (arith, nat_tests, t.of_writes.answers.look_up u)) in
    IfOk-weaker c.written.result _ _ (λ bytes is_rows. (
      c.in_ok-table.table,
      (c.in_ok-table.ensures.ok, (runs_text is_rows.0, ((t.writes, (t.rows, (is_rows.0, (is_rows.1.0, refl)))), is_rows.1.1))),
    )) printed

pub returns-clause-c : goal.returns-clause-c
returns-clause-c c = λ name is.
    IfOk-weaker c.written.result _ _ (λ bytes text. (c.in_ok-table.table, (c.in_ok-table.ensures.ok, text))) (c.written.ensures.c name is)

pub returns-clause-bks : goal.returns-clause-bks
returns-clause-bks c = λ name is.
    IfOk-weaker c.written.result _ _ (λ bytes text. (c.in_ok-table.table, (c.in_ok-table.ensures.ok, text)))
    (c.written.ensures.bks name is)

pub returns-clause-rust : goal.returns-clause-rust
returns-clause-rust c = λ name is.
    IfOk-weaker c.written.result _ _ (λ bytes text. (c.in_ok-table.table, (c.in_ok-table.ensures.ok, text)))
    (c.written.ensures.rust name is)
