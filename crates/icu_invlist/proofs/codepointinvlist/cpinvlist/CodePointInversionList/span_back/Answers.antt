use Rattle.std.proofs.Common.{arith}
use Rattle.icu_invlist.proofs.SpanLemmas.{back_start, back_past, back_stops}
use Rattle.icu_invlist.proofs.codepointinvlist.cpinvlist.CodePointInversionList.span_back.Goals.{then-not-has+in-Some-stretch_at, else-not-has}
use Rattle.icu_invlist.proofs.codepointinvlist.cpinvlist.CodePointInversionList.span_back.Goals as goal

pub loop-c-init : goal.loop-c-init
loop-c-init c = record {
  passed = back_start _ c.args.text.now _ _ c.utf8.text (cc) (cc);
  stretch = λ n low high. absurd (let e = c.none-stretch.ensures.1 in omega (arith, high));
}

pub loop-c-preserved : goal.loop-c-preserved
loop-c-preserved c = record {
  passed = rw c.len_utf8-start.ensures.len
      (back_past c.loop-c.invariant.passed _ _ c.shown.ensures c.in-Some.ensures.steps (elim c.if-not-has.branch [
        | then-not-has+in-Some-stretch_at w ↦ w.in-Some-stretch_at.ensures.0
        | else-not-has w ↦ (let h = c.has.ensures.0 w.if-not-has.false in c.loop-c.invariant.stretch c.in-Some.c h.0 h.1)
      ]));
  stretch = elim c.if-not-has.branch [
    | then-not-has+in-Some-stretch_at w ↦ rw w.stretch-is w.in-Some-stretch_at.ensures.1
    | else-not-has w ↦ rw w.stretch-is c.loop-c.invariant.stretch
  ];
}

pub returns-in_default-clause-place : goal.returns-in_default-clause-place
returns-in_default-clause-place c = back_stops c.loop-c.invariant.passed _ _ c.shown.ensures c.in-Some.ensures.steps
    c.in_default.ensures
