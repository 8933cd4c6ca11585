use Rattle.std.proofs.Common.{◌≡◌, ◌∙◌, rules}
use Rattle.std.proofs.lemmas.Bool.{both_ways}
use Rattle.serde_json.specs.View.{view}
use Rattle.icu_invlist.specs.SetJson.{SaysNone}
use Rattle.icu_invlist.specs.declared.codepointinvlist.error.SetJsonError.TheVariants as errors
use Rattle.icu_invlist.proofs.WrittenSets.{said, said_alone, refused_alone}
use Rattle.icu_invlist.proofs.FirstRefusal.{given_none, says_none}
use Rattle.icu_invlist.proofs.codepointinvlist.cpinvlist.CodePointInversionList.from_json.Goals as goal

pub returns-in_err-ends-clause-only : goal.returns-in_err-ends-clause-only
returns-in_err-ends-clause-only c = λ items ends d s v.
    let k : c.in_err-ends.field-0.0 ≡ errors.Memory = refused_alone _ items ends _ c.in_err-ends.ensures d s in search rules

pub returns-then-not-is_valid_slice-clause-only : goal.returns-then-not-is_valid_slice-clause-only
returns-then-not-is_valid_slice-clause-only c = λ items ends d s v.
    let e = said_alone _ items c.in_ok-ends.ends.items ends c.in_ok-ends.ensures d s in
    absurd (both_ways _ c.if-not-is_valid_slice.true (c.is_valid_slice.ensures.1 (rw (c.deref.ensures.value, e) v)))

pub returns-clause-ok : goal.returns-clause-ok
returns-clause-ok c =
    let v = c.is_valid_slice.ensures.0 c.if-not-is_valid_slice.false in
    let e = c.in-Ok.ensures ∙ c.deref-2.ensures.value in (
      rw e c.in_ok-ends.ensures,
      rw e (said (view c.args.value.now) c.in_ok-ends.ends.items c.in_ok-ends.ensures),
      rw e (rw c.deref.ensures.value at v),
    )

pub returns-clause-only : goal.returns-clause-only
returns-clause-only c = λ items ends d s v. c.in-Ok.ensures
    ∙ (c.deref-2.ensures.value ∙ said_alone _ items c.in_ok-ends.ends.items ends c.in_ok-ends.ensures d s)

pub returns-in_err-ends-clause-says_none : goal.returns-in_err-ends-clause-says_none
returns-in_err-ends-clause-says_none c =
    let k : SaysNone (view c.args.value.now) c.in_err-ends.field-0.0 =
    given_none (view c.args.value.now) c.in_err-ends.field-0.0 c.in_err-ends.ensures in search rules

pub returns-then-not-is_valid_slice-clause-says_none : goal.returns-then-not-is_valid_slice-clause-says_none
returns-then-not-is_valid_slice-clause-says_none c =
    says_none (view c.args.value.now) errors.InvalidSet (
      c.in_ok-ends.ends.items,
      c.in_ok-ends.ensures,
      λ v. both_ways _ c.if-not-is_valid_slice.true (c.is_valid_slice.ensures.1 (rw c.deref.ensures.value v)),
    )
