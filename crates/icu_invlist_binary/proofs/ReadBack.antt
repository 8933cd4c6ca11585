-- A set that is written is read back unchanged.
use Rattle.std.proofs.Common.{◌≡◌, ◌∙◌, ℕ, ◌+◌, ◌-◌, ◌*◌, ◌/◌, ◌%◌, ◌<◌, ◌≤◌, List, [], ◌∷◌, ◌++◌, length, get_or, take, drop, refl, ap, sym, arith, suc, subst, inl, inr, ◌⊎◌, Ok, length-append}
use Rattle.std.proofs.lemmas.Bool.{cases_lt, lt-ltb, le-ltb, le-leb, lt-leb, cond-true, cond-false}
use Rattle.std.proofs.lemmas.List.{take_all}
use Rattle.std.specs.List.{filter}
use Rattle.std.specs.Prelude.{nat_lt}
use Rattle.std.specs.List.Sorted.{IsStrictlyIncreasing}
use Rattle.icu_zerovec.specs.CodePoints.{code_point_limit}
use Rattle.icu_invlist.specs.InversionList.{IsValid}
use Rattle.icu_invlist_binary.specs.SerializedSet.{HasForm, IsSerialized, closed, count_of_singles, ends_in, ends_of_pairs, ends_of_units, head_units, serialized_length, singles_length, units_of, units_of_ends, units_of_ends_in}
use Rattle.icu_invlist_binary.proofs.UnitLemmas.{units_of_single, units_of_pair, units_of_limit}

-- ---- boundaries that are ascending from lo on, none of them above the limit
abbrev Rising : ℕ → List ℕ → Type 0
Rising lo [] = Unit {0}
Rising lo (e ∷ ends) = (lo ≤ e) × (e ≤ code_point_limit) × Rising (suc e) ends

rising_from : (lo : ℕ) (xs : List ℕ) → IsStrictlyIncreasing xs → (0 < length xs → lo ≤ get_or xs 0 0)
    → ((k : ℕ) → k < length xs → get_or xs k 0 ≤ code_point_limit) → Rising lo xs
rising_from lo [] up low high = tt
rising_from lo (x ∷ xs) up low high = (
  low (omega arith),
  high 0 (omega arith),
  rising_from (suc x) xs
      (λ k h. let e : suc k + 1 ≡ suc (k + 1) = omega arith in
      subst (λ (n : ℕ). get_or xs k 0 < get_or (x ∷ xs) n 0) e (up (suc k) (omega arith)))
      (λ h. up 0 (omega arith))
      (λ k h. high (suc k) (omega arith)),
)

rising : (xs : List ℕ) → IsValid xs → Rising 0 xs
rising xs v = rising_from 0 xs v.ascending (λ h. omega arith) (λ k h. v.within k 0 h)

-- ---- the boundaries that are written
abbrev written : List ℕ → List ℕ
written ends = filter (λ e. nat_lt e code_point_limit) ends

written_yes : (e : ℕ) (ends : List ℕ) → e < code_point_limit → written (e ∷ ends) ≡ e ∷ written ends
written_yes e ends h = cond-true _ _ _ (lt-ltb e code_point_limit h)

written_no : (e : ℕ) (ends : List ℕ) → code_point_limit ≤ e → written (e ∷ ends) ≡ written ends
written_no e ends h = cond-false _ _ _ (le-ltb e code_point_limit h)

none_past : (lo : ℕ) (ends : List ℕ) → code_point_limit < lo → Rising lo ends → ends ≡ []
none_past lo [] h r = refl
none_past lo (e ∷ ends) h r = absurd (omega (arith, r.0, r.1))

-- They are all boundaries, or all except the end of the code space.
written_cases : (lo : ℕ) (ends : List ℕ) → Rising lo ends → (written ends ≡ ends) ⊎ (written ends ++ code_point_limit ∷ [] ≡ ends)
written_cases lo [] r = inl refl
written_cases lo (e ∷ ends) r = elim (cases_lt e code_point_limit) [
  | inl h ↦ elim (written_cases (suc e) ends r.2) [
    | inl k ↦ inl (written_yes e ends h ∙ ap (λ (ys : List ℕ). e ∷ ys) k)
    | inr k ↦ inr (ap (λ (ys : List ℕ). ys ++ code_point_limit ∷ []) (written_yes e ends h) ∙ ap (λ (ys : List ℕ). e ∷ ys) k)
  ]
  | inr h ↦
      let n : ends ≡ [] = none_past (suc e) ends (omega arith) r.2 in
      let s : e ≡ code_point_limit = omega (arith, r.1) in
      inr (ap (λ (ys : List ℕ). ys ++ code_point_limit ∷ []) (written_no e ends h) ∙ rw (n, s) refl)
]

closed_even : (ends : List ℕ) → length ends % 2 ≡ 0 → closed ends ≡ ends
closed_even ends h = rw h refl

closed_odd : (ends : List ℕ) → length ends % 2 ≡ 1 → closed ends ≡ ends ++ code_point_limit ∷ []
closed_odd ends h = rw h refl

closed_back : (ends : List ℕ) → IsValid ends → closed (written ends) ≡ ends
closed_back ends v = elim (written_cases 0 ends (rising ends v)) [
  | inl k ↦ rw k (closed_even ends v.even)
  | inr k ↦
      let a = length-append (written ends) (code_point_limit ∷ []) in
      let b : length ends ≡ length (written ends ++ code_point_limit ∷ []) = ap length (sym k) in
      let c = v.even in
      closed_odd (written ends) (omega arith) ∙ k
]

-- ---- their units
abbrev Pairs : List ℕ → Type 0
Pairs [] = Unit {0}
Pairs (e ∷ ends) = (0x10000 ≤ e) × Pairs ends

pairs_past : (lo : ℕ) (ends : List ℕ) → 0x10000 ≤ lo → Rising lo ends → Pairs ends
pairs_past lo [] h r = tt
pairs_past lo (e ∷ ends) h r = (omega (arith, r.0), pairs_past (suc e) ends (omega (arith, r.0)) r.2)

no_singles : (ends : List ℕ) → Pairs ends → count_of_singles ends ≡ 0
no_singles [] p = refl
no_singles (e ∷ ends) p = ap length (cond-false _ _ _ (le-ltb e 0x10000 p.0)) ∙ no_singles ends p.1

pairs_back : (ends : List ℕ) → Pairs ends → ends_of_pairs (units_of_ends ends) ≡ written ends
pairs_back [] p = refl
pairs_back (e ∷ ends) p = elim (cases_lt e code_point_limit) [
  | inl h ↦
      let s : e / 0x10000 * 0x10000 + e % 0x10000 ≡ e = omega arith in
      ap (λ (us : List ℕ). ends_of_pairs (us ++ units_of_ends ends)) (units_of_pair e p.0 h)
      ∙ (rw (s, pairs_back ends p.1) (sym (written_yes e ends h)))
  | inr h ↦ ap (λ (us : List ℕ). ends_of_pairs (us ++ units_of_ends ends)) (units_of_limit e h)
      ∙ (pairs_back ends p.1 ∙ sym (written_no e ends h))
]

pairs_even : (ends : List ℕ) → Pairs ends → length (units_of_ends ends) % 2 ≡ 0
pairs_even [] p = refl
pairs_even (e ∷ ends) p = let b = pairs_even ends p.1 in elim (cases_lt e code_point_limit) [
  | inl h ↦ let a : length (units_of_ends (e ∷ ends)) ≡ suc (suc (length (units_of_ends ends))) =
      ap (λ (us : List ℕ). length (us ++ units_of_ends ends)) (units_of_pair e p.0 h) in omega arith
  | inr h ↦ let a : length (units_of_ends (e ∷ ends)) ≡ length (units_of_ends ends) =
      ap (λ (us : List ℕ). length (us ++ units_of_ends ends)) (units_of_limit e h) in omega arith
]

-- The units of boundaries, some of one unit each, are read as these boundaries.
record Split (ends units : List ℕ) (n : ℕ) : Type 0 where
  fits : n ≤ length units
  even : (length units - n) % 2 ≡ 0
  back : take n units ++ ends_of_pairs (drop n units) ≡ written ends

one_single : (e : ℕ) (ends : List ℕ) → e < 0x10000 → count_of_singles (e ∷ ends) ≡ suc (count_of_singles ends)
one_single e ends h = ap length (cond-true _ _ _ (lt-ltb e 0x10000 h))

split_single : (e n : ℕ) (ends units : List ℕ) → e < 0x10000 → Split ends units n → Split (e ∷ ends) (e ∷ units) (suc n)
split_single e n ends units h s = record {
  fits = let a = s.fits in omega arith;
  even = let a = s.even in let b = s.fits in let c : suc (length units) - suc n ≡ length units - n = omega arith in rw c a;
  back = ap (λ (ys : List ℕ). e ∷ ys) s.back ∙ sym (written_yes e ends (omega arith));
}

split_pairs : (ends : List ℕ) → Pairs ends → Split ends (units_of_ends ends) 0
split_pairs ends p = record { fits = omega arith; even = let a = pairs_even ends p in omega arith; back = pairs_back ends p }

split_units : (lo : ℕ) (ends : List ℕ) → Rising lo ends → Split ends (units_of_ends ends) (count_of_singles ends)
split_units lo [] r = split_pairs [] tt
split_units lo (e ∷ ends) r = elim (cases_lt e 0x10000) [
  | inl h ↦
      let s = split_single e (count_of_singles ends) ends (units_of_ends ends) h (split_units (suc e) ends r.2) in
      let t : Split (e ∷ ends) (e ∷ units_of_ends ends) (count_of_singles (e ∷ ends)) =
      subst (λ (n : ℕ). Split (e ∷ ends) (e ∷ units_of_ends ends) n) (sym (one_single e ends h)) s in
      subst (λ (us : List ℕ). Split (e ∷ ends) (us ++ units_of_ends ends) (count_of_singles (e ∷ ends))) (sym (units_of_single e h)) t
  | inr h ↦
      let p : Pairs (e ∷ ends) = (h, pairs_past (suc e) ends (omega arith) r.2) in
      subst (λ (n : ℕ). Split (e ∷ ends) (units_of_ends (e ∷ ends)) n) (sym (no_singles (e ∷ ends) p)) (split_pairs (e ∷ ends) p)
]

-- ---- the first units
-- The units start with the right counts for these units of boundaries.
record Says (units body : List ℕ) (n : ℕ) : Type 0 where
  ends : units_of_ends_in units ≡ Ok body
  singles : singles_length units ≡ n
  whole : serialized_length units ≡ length units

says_singles : (body : List ℕ) → length body ≤ 0x7FFF → Says (length body ∷ body) body (length body)
says_singles body h =
    let m : length body % 0x8000 ≡ length body = omega arith in
    let w : suc (length body) ≡ 1 + length body = omega arith in
    record {
      ends = rw (
        lt-leb 0x8000 (length body) (omega arith),
        m,
        le-ltb (suc (length body)) (1 + length body) (omega arith),
        take_all (length body) body (omega arith),
      ) refl;
      singles = rw (lt-leb 0x8000 (length body) (omega arith), m) refl;
      whole = rw (lt-leb 0x8000 (length body) (omega arith), m) (sym w);
    }

says_both : (body : List ℕ) (n : ℕ) → length body ≤ 0x7FFF → Says ((0x8000 + length body) ∷ n ∷ body) body n
says_both body n h =
    let m : (0x8000 + length body) % 0x8000 ≡ length body = omega arith in
    let w : suc (suc (length body)) ≡ 2 + length body = omega arith in
    record {
      ends = rw (
        le-leb 0x8000 (0x8000 + length body) (omega arith),
        m,
        le-ltb (suc (suc (length body))) (2 + length body) (omega arith),
        take_all (length body) body (omega arith),
      ) refl;
      singles = rw (le-leb 0x8000 (0x8000 + length body) (omega arith)) refl;
      whole = rw (le-leb 0x8000 (0x8000 + length body) (omega arith), m) (sym w);
    }

says_head : (body : List ℕ) (n : ℕ) → length body ≤ 0x7FFF → n ≤ length body → Says (head_units (length body) n ++ body) body n
says_head body n h k = elim (cases_lt n (length body)) [
  | inl l ↦ rw (lt-ltb n (length body) l) (says_both body n h)
  | inr l ↦
      let e : length body ≡ n = omega arith in
      rw (le-ltb n (length body) l) (subst (λ (m : ℕ). Says (length body ∷ body) body m) e (says_singles body h))
]

ends_of_split : (ends units : List ℕ) (n : ℕ) → Split ends units n → ends_of_units n units ≡ Ok (closed (written ends))
ends_of_split ends units n s = rw (le-ltb (length units) n s.fits, s.even, s.back) refl

ends_said : (ends units body : List ℕ) (n : ℕ) → Says units body n → Split ends body n → ends_in units ≡ Ok (closed (written ends))
unfolding ends_in
ends_said ends units body n s p = rw (s.ends, s.singles) (ends_of_split ends body n p)

-- ---- the law
read_back_units : (ends : List ℕ) → IsValid ends → HasForm ends → IsSerialized (units_of ends) ends (length (units_of ends))
read_back_units ends v f =
    let p = split_units 0 ends (rising ends v) in
    let s = says_head (units_of_ends ends) (count_of_singles ends) f p.fits in
    record {
      says = ends_said ends (units_of ends) (units_of_ends ends) (count_of_singles ends) s p
          ∙ ap (λ (ys : List ℕ). Ok ys) (closed_back ends v);
      valid = v;
      takes = sym s.whole;
      within = omega arith;
    }

pub read_back : (ends units : List ℕ) → IsValid ends → HasForm ends → units ≡ units_of ends → IsSerialized units ends (length units)
read_back ends units v f e = rw e (read_back_units ends v f)
