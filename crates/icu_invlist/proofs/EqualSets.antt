-- Two valid lists of the same set are equal.
use Rattle.std.proofs.Common.{◌≡◌, ℕ, ◌%◌, ◌<◌, ◌≤◌, List, [], ◌∷◌, Bool, refl, ap, sym, ◌∙◌, arith, suc, true, false, inl, inr}
use Rattle.std.proofs.lemmas.Bool.{cases_lt, cases_order, cases_eq, eq-eqb, ne_eqb, eqb-true, eqb-false}
use Rattle.icu_zerovec.specs.CodePoints.{code_point_limit}
use Rattle.icu_invlist.specs.InversionList.{holds, is_odd, IsSubset, IsValid}
use Rattle.icu_invlist.specs.Inside.Places.{Run, ends_below}
use Rattle.icu_invlist.proofs.RunLemmas.{ends_below-before, ends_below-past, ends_below-yes}
use Rattle.icu_invlist.proofs.Parity.{holds-ends_below}
use Rattle.icu_invlist.proofs.ValidLists.{run_from_valid}

-- The parity of the number of boundaries that are at most c is the same in both lists, for all c
-- from lo on.
abbrev Agree : ℕ → List ℕ → List ℕ → Type 0
Agree lo xs ys = (c : ℕ) → lo ≤ c → ends_below xs (suc c) % 2 ≡ ends_below ys (suc c) % 2

first : (x hi : ℕ) (xs : List ℕ) → Run (suc x) hi xs → ends_below (x ∷ xs) (suc x) ≡ 1
first x hi xs r = ends_below-yes x (suc x) xs (omega arith) ∙ ap suc (ends_below-before (suc x) hi xs (suc x) r (omega arith))

rest : (x lo c : ℕ) (xs : List ℕ) → suc x ≤ c → ends_below (x ∷ xs) (suc c) ≡ suc (ends_below xs (suc c))
rest x lo c xs h = ends_below-yes x (suc c) xs (omega arith)

pub same : (lo hi : ℕ) (xs ys : List ℕ) → Run lo hi xs → Run lo hi ys → Agree lo xs ys → xs ≡ ys
same lo hi [] [] r s a = refl
same lo hi [] (y ∷ ys) r s a = let k = a y s.0 in let f = first y hi ys s.2 in absurd (omega arith)
same lo hi (x ∷ xs) [] r s a = let k = a x r.0 in let f = first x hi xs r.2 in absurd (omega arith)
same lo hi (x ∷ xs) (y ∷ ys) r s a = elim (cases_order x y) [
  | inl e ↦ rw e (ap (λ (zs : List ℕ). y ∷ zs) (same (suc y) hi xs ys (rw e at r.2) s.2
      (λ c h. let k = a c (omega (arith, s.0)) in let f = rest x lo c xs (omega arith) in let g = rest y lo c ys h in omega arith)))
  | inr o ↦ elim o [
    | inl h ↦ let k = a x r.0 in let f = first x hi xs r.2 in
        let g = ends_below-before y hi (y ∷ ys) (suc x) (omega arith, s.1, s.2) h in absurd (omega arith)
    | inr h ↦ let k = a y s.0 in let f = first y hi ys s.2 in
        let g = ends_below-before x hi (x ∷ xs) (suc y) (omega arith, r.1, r.2) h in absurd (omega arith)
  ]
]

-- A valid list contains no number above the code space.
pub holds-past : (xs : List ℕ) (c : ℕ) → IsValid xs → code_point_limit ≤ c → ends_below xs (suc c) % 2 ≡ 0
holds-past xs c v h = let a = ends_below-past 0 (suc code_point_limit) xs (suc c) (run_from_valid xs v) (omega arith) in let b = v.even in
    omega arith

pub parity : (m n : ℕ) → is_odd m ≡ is_odd n → m % 2 ≡ n % 2
parity m n e = elim (cases_eq (m % 2) 1) [
  | inl h ↦ let k : is_odd n ≡ true = sym e ∙ eq-eqb _ _ h in let q = eqb-true _ _ k in omega arith
  | inr h ↦ let k : is_odd n ≡ false = sym e ∙ ne_eqb _ _ h in let q = eqb-false _ _ k in omega arith
]

-- Equal sets have equal lists.
pub same_sets : (xs ys : List ℕ) → IsValid xs → IsValid ys → ((c : ℕ) → c < code_point_limit → holds xs c ≡ holds ys c) → xs ≡ ys
same_sets xs ys v w h = same 0 (suc code_point_limit) xs ys (run_from_valid xs v) (run_from_valid ys w)
    (λ c _. elim (cases_lt c code_point_limit) [
      | inl k ↦ parity _ _ (sym (holds-ends_below xs c) ∙ (h c k ∙ holds-ends_below ys c))
      | inr k ↦ holds-past xs c v k ∙ sym (holds-past ys c w k)
    ])

both_imply : (a b : Bool) → (a ≡ true → b ≡ true) → (b ≡ true → a ≡ true) → a ≡ b
both_imply true b f g = sym (f refl)
both_imply false true f g = g refl
both_imply false false f g = refl

-- Sets that are subsets of each other are equal.
pub same_parts : (xs ys : List ℕ) → IsValid xs → IsValid ys → IsSubset xs ys → IsSubset ys xs → xs ≡ ys
same_parts xs ys v w f g = same_sets xs ys v w (λ c l. both_imply (holds xs c) (holds ys c) (f c l) (g c l))
