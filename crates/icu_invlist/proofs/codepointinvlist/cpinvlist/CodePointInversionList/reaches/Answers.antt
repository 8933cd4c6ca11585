use Rattle.std.proofs.Common.{arith, inl, inr}
use Rattle.std.proofs.lemmas.Bool.{leb-true, le-leb, eqb-true, cases_lt}
use Rattle.icu_invlist.specs.InversionList.{IsValid}
use Rattle.icu_invlist.proofs.PlaceLemmas.{covers_all, not_even, not_past, within-place}
use Rattle.icu_invlist.proofs.codepointinvlist.cpinvlist.CodePointInversionList.reaches.Goals as goal

pub returns-then-place-eq1 : goal.returns-then-place-eq1
returns-then-place-eq1 c = λ start p rises.
    let v : IsValid c.args.self.now = rw (← c.self.view_is) c.self.invariant.0 in
    let l = within-place c.args.self.now c.args.place _ v p c.if-place-eq1.true in (
      λ t. covers_all c.args.self.now c.args.place start c.args.end v p c.if-place-eq1.true l (let e = leb-true _ _ t in
          omega (arith, c.end_at.ensures.end)),
      λ h. elim (cases_lt c.end_at.result c.args.end) [
        | inl k ↦
            absurd (not_past c.args.self.now c.args.place start c.args.end v p c.if-place-eq1.true l h
            (omega (arith, c.end_at.ensures.end)))
        | inr k ↦ le-leb _ _ k
      ],
    )

pub returns-else-place-eq1 : goal.returns-else-place-eq1
returns-else-place-eq1 c = λ start p rises. (
  λ t. absurd (c.if-place-eq1.false (eqb-true _ _ t)),
  λ h. absurd (not_even c.args.self.now c.args.place start c.args.end p rises h c.if-place-eq1.false),
)
