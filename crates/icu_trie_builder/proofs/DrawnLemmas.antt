-- Each cell of the data is a number of the map, or the error value.
use Rattle.std.proofs.Common.{◌≡◌, ℕ, ◌<◌, Bool, true, List, ◌∷◌, length, get_or, Some, zero, suc, refl, arith, ap, sym, ◌∙◌, inl, inr}
use Rattle.std.specs.Prelude.{All, Any, nat_eq}
use Rattle.std.specs.List.{AllPass, list_any}
use Rattle.std.proofs.lemmas.Bool.{eq-eqb, eqb-true}
use Rattle.std.proofs.lemmas.List.{get_or_default}
use Rattle.std.proofs.lemmas.List.Folds.{Any-from_list_any, list_any_at}
use Rattle.icu_trie.specs.Parts.{last_cell}
use Rattle.icu_trie_builder.specs.Built.{IsDrawnFrom}

module _ (numbers values : List ℕ) (error : ℕ) (all : length numbers ≡ 0x110000) (last : last_cell values ≡ Some error) where
  -- Whether n is the error value or a number of the map.
  abbrev is_known : ℕ → Bool
  is_known n = list_any (nat_eq n) (error ∷ numbers)

  known : (i d : ℕ) → i < length (error ∷ numbers) → is_known (get_or (error ∷ numbers) i d) ≡ true
  known i d l = list_any_at (nat_eq (get_or (error ∷ numbers) i d)) (error ∷ numbers) i d l (eq-eqb _ _ refl)

  from_known : (n : ℕ) → Any (λ x. nat_eq n x ≡ true) (error ∷ numbers) → IsDrawnFrom Some (λ c. get_or numbers c 0) values n
  from_known n (zero, x, l, is, e) = inr (last ∙ ap Some (is ∙ sym (eqb-true n x e)))
  from_known n (suc c, x, l, is, e) = inl (
    c,
    omega (arith, l, all),
    ap Some (get_or_default numbers c 0 x (omega (arith, l)) ∙ is ∙ sym (eqb-true n x e)),
  )

  pub all-drawn : ((p : ℕ → Bool) → AllPass p numbers → p error ≡ true → AllPass p values)
      → All (IsDrawnFrom Some (λ c. get_or numbers c 0) values) values
  all-drawn drawn = λ k d l.
      let n = get_or values k d in
      from_known n (Any-from_list_any (nat_eq n) (error ∷ numbers)
      (drawn is_known (λ i e h. known (suc i) e (omega (arith, h))) (known 0 error (omega arith)) k d l))
