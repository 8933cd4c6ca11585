-- The loop that tests whether a list is valid.
use Rattle.std.proofs.Common.{◌≡◌, ◌∙◌, sym, ap, refl, ℕ, ◌+◌, ◌%◌, ◌<◌, ◌≤◌, suc, List, [], ◌∷◌, ◌++◌, length, get_or, subst, ◌⊎◌, inl, inr, arith}
use Rattle.std.proofs.lemmas.List.{length-append, length_push, get_or_append_left, get_or_at, get_or_push, append_assoc, append-nil}
use Rattle.icu_zerovec.specs.CodePoints.{code_point_limit}
use Rattle.icu_invlist.specs.InversionList.{IsValid}
use Rattle.icu_invlist.specs.Inside.Places.{Run}
use Rattle.icu_invlist.proofs.RunLemmas.{run-append, run-wider}
use Rattle.icu_invlist.proofs.ValidLists.{valid_from_run}

abbrev pub Tight : List ℕ → ℕ → Type 0
Tight ys next = (next ≡ 0) ⊎ ((k : ℕ) × (length ys ≡ k + 1) × (get_or ys k 0 + 1 ≡ next))

pub record Checked (xs ys rest : List ℕ) (next : ℕ) : Type 0 where
  pub all : ys ++ rest ≡ xs
  pub run : Run 0 next ys
  pub small : next ≤ suc code_point_limit
  pub tight : Tight ys next

pub checked_more : (xs ys rest more : List ℕ) (next e : ℕ) → Checked xs ys rest next → rest ≡ e ∷ more → next ≤ e → e ≤ code_point_limit
    → Checked xs (ys ++ e ∷ []) more (e + 1)
checked_more xs ys rest more next e c r h l = record {
  all = append_assoc ys (e ∷ []) more ∙ (ap (λ (zs : List ℕ). ys ++ zs) (sym r) ∙ c.all);
  run = run-append 0 next (e + 1) ys (e ∷ []) (omega arith) (omega arith) c.run (h, omega arith, tt);
  small = omega arith;
  tight = inr (length ys, length_push ys e, ap (λ (n : ℕ). n + 1) (get_or_push ys e 0 (length ys) refl));
}

pub checked_low : (xs ys rest more : List ℕ) (next e : ℕ) → Checked xs ys rest next → rest ≡ e ∷ more → e < next → IsValid xs → ⊥
checked_low xs ys rest more next e c r h v = elim c.tight [
  | inl z ↦ absurd (omega arith)
  | inr t ↦
      let w : IsValid (ys ++ e ∷ more) = subst (λ (zs : List ℕ). IsValid zs) (sym c.all ∙ ap (λ (zs : List ℕ). ys ++ zs) r) v in
      let n = length-append ys (e ∷ more) in
      let a = w.ascending t.0 (omega (arith, t.1)) in
      let p : get_or (ys ++ e ∷ more) t.0 0 ≡ get_or ys t.0 0 = get_or_append_left ys (e ∷ more) 0 t.0 (omega (arith, t.1)) in
      let q : get_or (ys ++ e ∷ more) (t.0 + 1) 0 ≡ e = get_or_at ys e more 0 (t.0 + 1) t.1 in
      omega (arith, t.2)
]

pub checked_high : (xs ys rest more : List ℕ) (next e : ℕ) → Checked xs ys rest next → rest ≡ e ∷ more → code_point_limit < e → IsValid xs
    → ⊥
checked_high xs ys rest more next e c r h v =
    let w : IsValid (ys ++ e ∷ more) = subst (λ (zs : List ℕ). IsValid zs) (sym c.all ∙ ap (λ (zs : List ℕ). ys ++ zs) r) v in
    let n = length-append ys (e ∷ more) in
    let b = w.within (length ys) 0 (omega arith) in
    let q : get_or (ys ++ e ∷ more) (length ys) 0 ≡ e = get_or_at ys e more 0 (length ys) refl in omega arith

pub checked_whole : (xs ys rest : List ℕ) (next : ℕ) → Checked xs ys rest next → rest ≡ [] → ys ≡ xs
checked_whole xs ys rest next c r = sym (append-nil ys) ∙ (ap (λ (zs : List ℕ). ys ++ zs) (sym r) ∙ c.all)

pub checked_all : (xs ys rest : List ℕ) (next : ℕ) → Checked xs ys rest next → rest ≡ [] → length xs % 2 ≡ 0 → IsValid xs
checked_all xs ys rest next c r e =
    let a = checked_whole xs ys rest next c r in
    subst (λ (zs : List ℕ). IsValid zs) a (valid_from_run ys (run-wider 0 next 0 (suc code_point_limit) ys (omega arith) c.small c.run)
    (ap (λ (zs : List ℕ). length zs % 2) a ∙ e))
