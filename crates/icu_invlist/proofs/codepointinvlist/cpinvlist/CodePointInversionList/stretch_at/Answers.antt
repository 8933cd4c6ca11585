use Rattle.std.proofs.Common.{◌≡◌, ◌∙◌, ap, sym, subst, ℕ, ◌∷◌, get_or, arith}
use Rattle.std.proofs.lemmas.List.{get_or_past}
use Rattle.std.proofs.lemmas.Grind.{get_or_default_zero}
use Rattle.icu_zerovec.specs.CodePoints.{code_point_limit}
use Rattle.icu_invlist.specs.InversionList.{is_odd}
use Rattle.icu_invlist.proofs.Parity.{holds-ends_below}
use Rattle.icu_invlist.proofs.SpanLemmas.{is_unwanted, is_wanted}
use Rattle.icu_invlist.proofs.StretchLemmas.{holds-between, start-first, start-after}
use Rattle.icu_invlist.proofs.codepointinvlist.cpinvlist.CodePointInversionList.stretch_at.Goals.{then-place-eq0, else-place-eq0}
use Rattle.icu_invlist.proofs.codepointinvlist.cpinvlist.CodePointInversionList.stretch_at.Goals as goal

pub returns-then-place-held : goal.returns-then-place-held
returns-then-place-held c =
    is_unwanted _ (ap is_odd (rw c.from.ensures at c.place_of-place.ensures.place) ∙ sym (holds-ends_below _ c.args.c)) c.if-place-held.true

pub returns-then-place-count : goal.returns-then-place-count
returns-then-place-count c = let p = c.place_of-place.ensures in let e = rw c.from.ensures at p.place in (
  is_wanted c.args.held (ap is_odd e ∙ sym (holds-ends_below _ c.args.c)) c.if-place-held.false,
  (λ n a b. is_wanted c.args.held (sym (holds-between c.args.self.now c.place_of-place.result n p.valid p.within
      (λ z. elim c.if-place-eq0.branch [
        | then-place-eq0 w ↦ absurd (let t = w.if-place-eq0.true in omega (arith, z))
        | else-place-eq0 w ↦ (let f = w.end_at-start.ensures.end in let s = w.start-is in omega (arith, a))
      ])
      (λ z. absurd (let t = c.if-place-count.true in let l = c.count.ensures.count in omega (arith, z))))) c.if-place-held.false),
  (
    subst (λ (n : ℕ). c.if-place-eq0.start ≡ get_or (0 ∷ c.args.self.now) n 0) e (elim c.if-place-eq0.branch [
      | then-place-eq0 w ↦ start-first c.args.self.now c.place_of-place.result _ w.if-place-eq0.true w.start-is
      | else-place-eq0 w ↦ start-after c.args.self.now c.place_of-place.result _
          (let f = w.if-place-eq0.false in omega (arith, f)) (w.start-is ∙ w.end_at-start.ensures.end)
    ]),
    subst (λ (n : ℕ). code_point_limit ≡ get_or c.args.self.now n code_point_limit) e
        (sym (get_or_past c.args.self.now c.place_of-place.result _
        (let t = c.if-place-count.true in let l = c.count.ensures.count in omega (arith)))),
  ),
)

pub returns-else-place-count : goal.returns-else-place-count
returns-else-place-count c = let p = c.place_of-place.ensures in let e = rw c.from.ensures at p.place in (
  is_wanted c.args.held (ap is_odd e ∙ sym (holds-ends_below _ c.args.c)) c.if-place-held.false,
  (λ n a b. is_wanted c.args.held (sym (holds-between c.args.self.now c.place_of-place.result n p.valid p.within
      (λ z. elim c.if-place-eq0.branch [
        | then-place-eq0 w ↦ absurd (let t = w.if-place-eq0.true in omega (arith, z))
        | else-place-eq0 w ↦ (let f = w.end_at-start.ensures.end in let s = w.start-is in omega (arith, a))
      ])
      (λ z. let f = c.end_at-end.ensures.end in omega (arith, b)))) c.if-place-held.false),
  (
    subst (λ (n : ℕ). c.if-place-eq0.start ≡ get_or (0 ∷ c.args.self.now) n 0) e (elim c.if-place-eq0.branch [
      | then-place-eq0 w ↦ start-first c.args.self.now c.place_of-place.result _ w.if-place-eq0.true w.start-is
      | else-place-eq0 w ↦ start-after c.args.self.now c.place_of-place.result _
          (let f = w.if-place-eq0.false in omega (arith, f)) (w.start-is ∙ w.end_at-start.ensures.end)
    ]),
    subst (λ (n : ℕ). c.end_at-end.result ≡ get_or c.args.self.now n code_point_limit) e (c.end_at-end.ensures.end
        ∙ sym (get_or_default_zero c.args.self.now c.place_of-place.result _
        (let l = c.count.ensures.count in let t = c.if-place-count.false in let w = p.within in omega arith))),
  ),
)
