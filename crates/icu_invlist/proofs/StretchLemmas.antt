-- The code points between two neighbouring boundaries.
use Rattle.std.proofs.Common.{◌≡◌, ◌∙◌, sym, ap, ℕ, zero, suc, ◌-◌, ◌<◌, ◌≤◌, List, ◌∷◌, length, get_or, arith}
use Rattle.icu_zerovec.specs.CodePoints.{code_point_limit}
use Rattle.icu_invlist.specs.InversionList.{IsValid, holds, is_odd}
use Rattle.icu_invlist.proofs.Parity.{holds-ends_below}
use Rattle.icu_invlist.proofs.RunLemmas.{below_is, run-rises}
use Rattle.icu_invlist.proofs.ValidLists.{run_from_valid}

-- A code point behind boundary number place - 1 and before the next one is in the set if `place` is odd.
module _ (xs : List ℕ) (place n : ℕ) (v : IsValid xs) (within : place ≤ length xs) where
  rises : (i j : ℕ) → i ≤ j → j < length xs → get_or xs i 0 ≤ get_or xs j 0
  rises i j h l = run-rises 0 (suc code_point_limit) xs (run_from_valid xs v) i j 0 h l

  pub holds-between : (0 < place → get_or xs (place - 1) 0 ≤ n) → (place < length xs → n < get_or xs place 0)
      → holds xs n ≡ is_odd place
  holds-between low high = holds-ends_below xs n ∙ ap is_odd (sym (below_is xs place (suc n) within
      (λ k p. let r = rises k (place - 1) (omega (arith, p)) (omega (arith, p, within)) in
      let l = low (omega (arith, p)) in omega arith)
      (λ k p q. let r = rises place k p q in let h = high (omega (arith, p, q)) in omega arith)))

-- The boundary before the one with this number, or 0.
pub start-first : (xs : List ℕ) (place s : ℕ) → place ≡ 0 → s ≡ 0 → s ≡ get_or (0 ∷ xs) place 0
start-first xs zero s p e = e
start-first xs (suc n) s p e = absurd (omega (arith, p))

pub start-after : (xs : List ℕ) (place s : ℕ) → 0 < place → s ≡ get_or xs (place - 1) 0 → s ≡ get_or (0 ∷ xs) place 0
start-after xs zero s p e = absurd (omega (arith, p))
start-after xs (suc n) s p e = e ∙ ap (λ (k : ℕ). get_or xs k 0) (omega arith)
