use Rattle.std.proofs.Common.{sym, subst, rules}
use Rattle.serde_json.specs.View.{view}
use Rattle.icu_text_sets.specs.TextSet.{texts_of}
use Rattle.icu_text_sets.specs.TextSetJson.{json_fault_of, IsRefusedAs}
use Rattle.icu_text_sets.specs.TextFaults.{fault_of}
use Rattle.icu_text_sets.proofs.JsonSets.{set_refused, texts_refused, set_taken, strings_refused}
use Rattle.icu_text_sets.proofs.codepointinvliststringlist.set.CodePointInversionListAndStringList.from_json.Goals as goal

pub returns-in-Err-clause-err : goal.returns-in-Err-clause-err
returns-in-Err-clause-err c =
    subst (IsRefusedAs (view c.args.value.now)) (sym c.set_error.ensures)
    (set_refused (view c.args.value.now) (view c.in-Some.code_points.now) c.in-Err.error (sym c.in-Some.ensures) c.in-Err.ensures.err)

pub returns-in_err-str_list-clause-err : goal.returns-in_err-str_list-clause-err
returns-in_err-str_list-clause-err c =
    let k : IsRefusedAs (view c.args.value.now) (json_fault_of c.in_err-str_list.field-0.0) =
    texts_refused (view c.args.value.now) (view c.in-Some.code_points.now) c.in-Ok.set (json_fault_of c.in_err-str_list.field-0.0)
    (sym c.in-Some.ensures)
    c.in-Ok.ensures.ok.0 c.in-Ok.ensures.ok.2 c.in_err-str_list.ensures.err in
    search rules

pub returns-in-Ok-try_from-clause-ok : goal.returns-in-Ok-try_from-clause-ok
returns-in-Ok-try_from-clause-ok c =
    set_taken (view c.args.value.now) (view c.in-Some.code_points.now) c.in-Ok.set (texts_of c.in_ok-str_list.str_list.items)
    c.in-Ok-try_from.set (sym c.in-Some.ensures)
    c.in-Ok.ensures.ok.0 c.in-Ok.ensures.ok.2 c.in_ok-str_list.ensures.ok c.in-Ok-try_from.ensures.ok.1 c.in-Ok-try_from.ensures.ok.0

pub returns-in-Err-try_from-clause-err : goal.returns-in-Err-try_from-clause-err
returns-in-Err-try_from-clause-err c =
    strings_refused (view c.args.value.now) (view c.in-Some.code_points.now) c.in-Ok.set (texts_of c.in_ok-str_list.str_list.items)
    (fault_of c.in-Err-try_from.error) (sym c.in-Some.ensures)
    c.in-Ok.ensures.ok.0 c.in-Ok.ensures.ok.2 c.in_ok-str_list.ensures.ok c.in-Err-try_from.ensures.err
