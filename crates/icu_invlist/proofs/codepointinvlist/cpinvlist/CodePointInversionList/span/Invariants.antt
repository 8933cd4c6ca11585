use mathlib.Core.Bool.{beq}
use Rattle.icu_invlist.specs.InversionList.{holds}
use Rattle.icu_invlist.specs.Inside.Stretches.{IsStretch}
use Rattle.icu_invlist.proofs.SpanLemmas.{Spanned}
use Rattle.icu_invlist.proofs.codepointinvlist.cpinvlist.CodePointInversionList.span.Given as goal

abbrev pub invariant-loop-c : goal.invariant-loop-c
invariant-loop-c l = record {
  passed : Spanned (λ c. beq (holds l.self c) l.held) l.text l.c-iterator.rest.now l.length;
  stretch : IsStretch l.self l.held l.stretch.start l.stretch.end;
}
