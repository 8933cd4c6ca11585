use Rattle.std.proofs.Common.{[], ◌≡◌, ◌∙◌, codes, refl, rules, sym}
use Rattle.std.specs.Str.Lines.{lines}
use Rattle.ucptrie_forms.proofs.StatedLemmas.{stated-all, stated-next}
use Rattle.ucptrie_forms.proofs.stated.stated_values.Goals as goal

pub loop-line-init : goal.loop-line-init
loop-line-init c = record { null = refl; error = refl }

pub loop-line-preserved : goal.loop-line-preserved
loop-line-preserved c =
    let rest = c.loop-line.rest.now in
    let line = c.in-Some.line.now in
    let after = c.in-Some.after.now in
    let cut = c.in-Some.ensures.some in
    record {
      null = stated-next (codes "null value") _ _ _ _ rest line after c.args.rows.now cut c.as_slice.ensures
          c.number_after.ensures c.or-null.ensures c.loop-line.invariant.null;
      error = stated-next (codes "error value") _ _ _ _ rest line after c.args.rows.now cut c.as_slice-in-Some.ensures
          c.number_after-in-Some.ensures c.or-error.ensures c.loop-line.invariant.error;
    }

pub returns-clause-null : goal.returns-clause-null
returns-clause-null c =
    let none : lines c.loop-line.rest.now ≡ [] = search rules in
    sym (stated-all (codes "null value") c.loop-line.null c.loop-line.rest.now none) ∙ c.loop-line.invariant.null

pub returns-clause-error : goal.returns-clause-error
returns-clause-error c =
    let none : lines c.loop-line.rest.now ≡ [] = search rules in
    sym (stated-all (codes "error value") c.loop-line.error c.loop-line.rest.now none) ∙ c.loop-line.invariant.error
