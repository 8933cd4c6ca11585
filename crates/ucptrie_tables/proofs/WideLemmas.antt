-- The first value with too many bits is that of a code point, or the error value.
use Rattle.std.proofs.Common.{◌≡◌, ◌^◌, ◌<◌, ◌≤◌, ℕ, nat_lt, not, Bool, true, false, cond, List, [], ◌∷◌, length, get_or, Some, suc, refl, sym, ap, subst, ◌∙◌, arith, inl, inr}
use Rattle.std.specs.List.{find}
use Rattle.std.proofs.lemmas.Bool.{ltb-false, not-true}
use Rattle.std.proofs.lemmas.Option.{same_Some}
use Rattle.icu_trie_core.specs.ValueNumbers.{fitting}
use Rattle.icu_trie.specs.Parts.{Parts}
use Rattle.icu_trie_builder.specs.Built.{IsDrawnFrom, IsWellBuilt}
use Rattle.icu_trie_builder.specs.MapAnswers.{AnswersMap}
use Rattle.icu_trie_builder.proofs.CallerLemmas.{error-of-map}
use Rattle.ucptrie_tables.specs.Tables.{IsValueOfMap}
use Rattle.ucptrie_tables.specs.ValueWidth.{bits_of, first_wider}
use Rattle.ucptrie_tables.specs.declared.width.ValueWidth.{ValueWidth}
use Rattle.ucptrie_tables.proofs.CallerLemmas.{fitted}

-- what is found is in the list and passes the test
found : (p : ℕ → Bool) (xs : List ℕ) (v : ℕ) → find p xs ≡ Some v
    → (k : ℕ) × (k < length xs) × (get_or xs k 0 ≡ v) × (p v ≡ true)
found p [] v e = absurd (cc)
found p (x ∷ xs) v e = by (p x) refl e (found p xs v)
  where
    by : (b : Bool) → p x ≡ b → cond b (Some x) (find p xs) ≡ Some v
        → (find p xs ≡ Some v → (k : ℕ) × (k < length xs) × (get_or xs k 0 ≡ v) × (p v ≡ true))
        → (k : ℕ) × (k < length (x ∷ xs)) × (get_or (x ∷ xs) k 0 ≡ v) × (p v ≡ true)
    by true passes is later = let same : x ≡ v = same_Some _ _ is in (0, omega arith, same, ap p (sym same) ∙ passes)
    by false fails is later = let w = later is in (suc w.0, omega (arith, w.1), w.2, w.3)

module _ (f : ℕ → ℕ) (error : ℕ) (t : Parts ℕ) (answers : AnswersMap f error t) (built : IsWellBuilt (fitting (2 ^ 32)) f t) where
  of_map : (v : ℕ) → IsDrawnFrom (fitting (2 ^ 32)) f t.values v → IsValueOfMap f error v
  of_map v (inl w) = inl (w.0, w.1, fitted (2 ^ 32) (f w.0) v w.2)
  of_map v (inr last) = inr (same_Some _ _ (sym last ∙ error-of-map f error t answers))

  pub too_wide : (w : ValueWidth) (v : ℕ) → first_wider w t.values ≡ Some v → (2 ^ bits_of w ≤ v) × IsValueOfMap f error v
  too_wide w v first =
      let here = found (λ x. not (nat_lt x (2 ^ bits_of w))) t.values v first in
      (ltb-false v (2 ^ bits_of w) (not-true _ here.3), subst (IsValueOfMap f error) here.2 (of_map _ (built.drawn here.0 0 here.1)))
