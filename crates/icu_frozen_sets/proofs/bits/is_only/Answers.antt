use Rattle.std.proofs.Common.{◌≡◌, ◌∙◌, ℕ, ◌+◌, ◌-◌, ◌<◌, ap, arith, drop, get_or, length-drop, sym, take}
use Rattle.std.proofs.lemmas.List.{get_or-drop, get_or-take, length-take-le}
use Rattle.icu_frozen_sets.proofs.bits.is_only.Goals as goal

pub returns : goal.returns
returns c =
    let marks = c.args.marks.now in
    let long = length-drop 1 marks in
    let rest_long = length-take-le 15 (drop 1 marks) (omega (arith, long)) in
    let at : (k : ℕ) → k < 15 → get_or (take 15 (drop 1 marks)) k 0 ≡ get_or marks (1 + k) 0 =
    λ k h. get_or-take 15 (drop 1 marks) k 0 h ∙ get_or-drop 1 marks k 0 in (
      (λ t. record {
        first = omega arith;
        none = λ k m h. ap (λ (i : ℕ). get_or marks i 0) (omega (arith, m)) ∙ (sym (at (k - 1) (omega (arith, m, h)))
            ∙ c.is_all.ensures.0 t (k - 1) (omega (arith, rest_long, m, h)));
      }),
      (λ o. c.is_all.ensures.1 (λ k h. at k (omega (arith, rest_long, h)) ∙ o.none (1 + k) (omega arith) (omega (arith, rest_long, h)))),
    )
