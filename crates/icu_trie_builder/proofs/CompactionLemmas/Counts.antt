-- The number of distinct values of a function on a range.
use Rattle.std.proofs.Common.{◌≡◌, ℕ, ◌+◌, ◌<◌, ◌≤◌, ◌≢◌, Bool, true, false, cond, ◌||◌, List, [], ◌∷◌, length, map, get_or, refl, arith, ◌∙◌, sym, ap, true≢false}
use Rattle.std.specs.Bool.{Decides}
use Rattle.std.specs.Cmp.{IsEquivalence}
use Rattle.std.specs.List.{range_with_len, IsDistinct, Contains, AllPairs, AllByRecursion}
use Rattle.std.specs.Set.{distinct_count, unique_keys, is_member}
use Rattle.std.proofs.lemmas.Map.Made.{length-le_from_is_member, is_member-Decides, IsDistinct-from_AllPairs}
use Rattle.std.proofs.lemmas.List.FromFn.{length-map-range_with_len, get_or-map-range_with_len}

module _ {K : Type 0} {eq : K → K → Bool} (laws : IsEquivalence eq) (same : (a b : K) → Decides (eq a b) (a ≡ b)) where
  -- Each key of a list is among its distinct keys.
  pub is_member-unique_keys : (xs : List K) (q : K) → is_member eq xs q ≡ true → is_member eq (unique_keys eq xs) q ≡ true
  is_member-unique_keys [] q h = h
  is_member-unique_keys (x ∷ xs) q h = by (is_member eq xs x) (eq q x) refl refl (is_member-unique_keys xs q) h
    where
      by : (b c : Bool) → is_member eq xs x ≡ b → eq q x ≡ c → (is_member eq xs q ≡ true → is_member eq (unique_keys eq xs) q ≡ true)
          → (c || is_member eq xs q) ≡ true → is_member eq (cond b (unique_keys eq xs) (x ∷ unique_keys eq xs)) q ≡ true
      by true true m t r g = r (ap (is_member eq xs) ((same q x).0 t) ∙ m)
      by true false m t r g = r g
      by false true m t r g = rw t refl
      by false false m t r g = rw t (r g)

  -- If a list has each of some distinct keys, it has at least that many distinct keys.
  pub length-le-distinct_count : (ns xs : List K) → IsDistinct eq ns → ((q : K) → is_member eq ns q ≡ true → is_member eq xs q ≡ true)
      → length ns ≤ distinct_count eq xs
  length-le-distinct_count ns xs d h = length-le_from_is_member laws ns (unique_keys eq xs) d (λ q m. is_member-unique_keys xs q (h q m))

  -- n pairwise distinct values of f, each of which is a value of g on the range.
  pub apart-le-distinct_count : (f g : ℕ → K) (n a m : ℕ) → ((p q : ℕ) → p < q → q < n → f p ≢ f q)
      → ((p : ℕ) → p < n → (i : ℕ) × (i < m) × (f p ≡ g (a + i))) → n ≤ distinct_count eq (map g (range_with_len a m))
  apart-le-distinct_count f g n a m apart known =
      let ns : List K = map f (range_with_len 0 n) in
      let xs : List K = map g (range_with_len a m) in
      let len : length ns ≡ n = length-map-range_with_len f 0 n in
      let pairs : AllPairs (λ x y. x ≢ y) ns = λ p q d l h e. apart p q l (omega (arith, len))
      (sym (get_or-map-range_with_len f 0 n p p d (omega (arith, len)) (omega arith)) ∙ e
      ∙ get_or-map-range_with_len f 0 n q q d (omega (arith, len)) (omega arith)) in
      let member : (q : K) → is_member eq ns q ≡ true → is_member eq xs q ≡ true = λ q t.
      let has = (is_member-Decides same ns q).0 t in
      let p : ℕ = has.0 in
      let lt : p < n = omega (arith, len, has.1) in
      let is : f p ≡ q = sym (get_or-map-range_with_len f 0 n p p q lt (omega arith)) ∙ has.2 in
      let w = known p lt in
      let there : get_or xs w.0 q ≡ q = get_or-map-range_with_len g a m w.0 (a + w.0) q w.1 refl ∙ sym w.2 ∙ is in
      (is_member-Decides same xs q).1 (w.0, omega (arith, length-map-range_with_len g a m, w.1), there) in
      let bound = length-le-distinct_count ns xs (IsDistinct-from_AllPairs same ns pairs) member in
      omega (arith, len, bound)

  pub absent-apart : (q : K) (ys : List K) → is_member eq ys q ≡ false → AllByRecursion (λ y. eq q y ≡ false) ys
  absent-apart q [] h = tt
  absent-apart q (y ∷ ys) h = at (eq q y) refl h (absent-apart q ys)
    where
      at : (c : Bool) → eq q y ≡ c → (c || is_member eq ys q) ≡ false
          → (is_member eq ys q ≡ false → AllByRecursion (λ y. eq q y ≡ false) ys)
          → (eq q y ≡ false) × AllByRecursion (λ y. eq q y ≡ false) ys
      at true t g r = absurd (true≢false g)
      at false t g r = (t, r g)

  pub unique_keys-member : (xs : List K) (q : K) → is_member eq (unique_keys eq xs) q ≡ true → is_member eq xs q ≡ true
  unique_keys-member [] q h = h
  unique_keys-member (x ∷ xs) q h = by (is_member eq xs x) (eq q x) refl h (unique_keys-member xs q)
    where
      by : (b c : Bool) → eq q x ≡ c → is_member eq (cond b (unique_keys eq xs) (x ∷ unique_keys eq xs)) q ≡ true
          → (is_member eq (unique_keys eq xs) q ≡ true → is_member eq xs q ≡ true) → (c || is_member eq xs q) ≡ true
      by b true t g r = refl
      by true false t g r = r g
      by false false t g r = r (rw t at g)

  unique_keys-absent : (q : K) (ys : List K) → is_member eq ys q ≡ false → is_member eq (unique_keys eq ys) q ≡ false
  unique_keys-absent q ys h = at (is_member eq (unique_keys eq ys) q) refl
    where
      at : (c : Bool) → is_member eq (unique_keys eq ys) q ≡ c → is_member eq (unique_keys eq ys) q ≡ false
      at true t = absurd (true≢false (sym (unique_keys-member ys q t) ∙ h))
      at false t = t

  pub unique_keys-apart : (xs : List K) → IsDistinct eq (unique_keys eq xs)
  unfolding IsDistinct
  unique_keys-apart [] = tt
  unique_keys-apart (x ∷ xs) = by (is_member eq xs x) refl (unique_keys-apart xs)
    where
      by : (b : Bool) → is_member eq xs x ≡ b → IsDistinct eq (unique_keys eq xs)
          → IsDistinct eq (cond b (unique_keys eq xs) (x ∷ unique_keys eq xs))
      by true m r = r
      by false m r = (absent-apart x (unique_keys eq xs) (unique_keys-absent x xs m), r)

  -- If another list has each key of a list, it has at least as many distinct keys.
  pub distinct_count-mono : (xs ys : List K) → ((q : K) → Contains xs q → Contains ys q) → distinct_count eq xs ≤ distinct_count eq ys
  distinct_count-mono xs ys h = length-le-distinct_count (unique_keys eq xs) ys (unique_keys-apart xs)
      (λ q m. (is_member-Decides same ys q).1 (h q ((is_member-Decides same xs q).0 (unique_keys-member xs q m))))
