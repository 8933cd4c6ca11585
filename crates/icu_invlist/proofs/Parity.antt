-- The set contains c if the number of boundaries below c + 1 is odd.
use Rattle.std.proofs.Common.{◌≡◌, ℕ, ◌%◌, List, [], refl, ap, arith, suc, Bool, true, false, cond, inl, inr}
use Rattle.std.specs.Prelude.{IsTrue, ◌↔◌}
use Rattle.std.proofs.lemmas.Bool.{both_ways, cases_eq, eq-eqb, false≢true, ne_eqb}
use Rattle.icu_invlist.specs.InversionList.{holds, is_odd}
use Rattle.icu_invlist.specs.Inside.Places.{ends_below}
use Rattle.icu_invlist.proofs.RunLemmas.{up_to-ends_below}

pub odd_same : (m n : ℕ) → m % 2 ≡ n % 2 → is_odd m ≡ is_odd n
odd_same m n e = rw e refl

pub odd_is : (n : ℕ) (v : Bool) → n % 2 ≡ cond v 1 0 → is_odd n ≡ v
odd_is n true e = eq-eqb _ _ e
odd_is n false e = ne_eqb _ _ (λ k. omega arith)

pub holds-ends_below : (xs : List ℕ) (c : ℕ) → holds xs c ≡ is_odd (ends_below xs (suc c))
holds-ends_below xs c = ap is_odd (up_to-ends_below xs c)

pub holds-nil : (c : ℕ) → holds [] c ≡ false
holds-nil c = holds-ends_below [] c

-- A number that a test found not to be even.
pub not_even_is_odd : (even : Bool) (n : ℕ) → (IsTrue even ↔ (n % 2 ≡ 0)) → even ≡ false → n % 2 ≡ 1
not_even_is_odd true n h e = absurd (both_ways true e refl)
not_even_is_odd false n h e = elim (cases_eq (n % 2) 0) [ inl k ↦ absurd (false≢true (h.1 k)) | inr k ↦ omega arith ]
