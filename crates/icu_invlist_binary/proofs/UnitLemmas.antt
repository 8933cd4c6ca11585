-- The units of boundaries, one boundary after another.
use Rattle.std.proofs.Common.{◌≡◌, ◌∙◌, ℕ, ◌+◌, ◌*◌, ◌/◌, ◌%◌, ◌<◌, ◌≤◌, List, [], ◌∷◌, ◌++◌, length, drop, slice_get, Some, refl, ap, arith, zero, suc, length-append}
use Rattle.std.proofs.lemmas.Bool.{lt-ltb, le-ltb, cond-true, cond-false}
use Rattle.std.proofs.lemmas.List.{drop_all}
use Rattle.icu_zerovec.specs.CodePoints.{code_point_limit}
use Rattle.icu_invlist_binary.specs.SerializedSet.{count_of_singles, units_of_end, units_of_ends}

-- ---- the units of a boundary
pub units_of_single : (e : ℕ) → e < 0x10000 → units_of_end e ≡ e ∷ []
units_of_single e h = rw (lt-ltb e 0x10000 h) refl

pub units_of_pair : (e : ℕ) → 0x10000 ≤ e → e < code_point_limit → units_of_end e ≡ e / 0x10000 ∷ e % 0x10000 ∷ []
units_of_pair e h l = rw (le-ltb e 0x10000 h, lt-ltb e code_point_limit l) refl

pub units_of_limit : (e : ℕ) → code_point_limit ≤ e → units_of_end e ≡ []
units_of_limit e h = rw (le-ltb e 0x10000 (omega arith), le-ltb e code_point_limit h) refl

-- ---- boundaries that are written
drop_place : (xs : List ℕ) (i x : ℕ) → slice_get xs i ≡ Some x → drop i xs ≡ x ∷ drop (i + 1) xs
drop_place [] i x e = cc
drop_place (y ∷ ys) zero x e = let k : y ≡ x = cc in rw k refl
drop_place (y ∷ ys) (suc i) x e = let k : suc i + 1 ≡ suc (i + 1) = omega arith in rw k (drop_place ys i x e)

-- The number of units that are left.
pub left_more : (xs more : List ℕ) (i x : ℕ) → slice_get xs i ≡ Some x → units_of_end x ≡ more
    → length (units_of_ends (drop i xs)) ≡ length more + length (units_of_ends (drop (i + 1) xs))
left_more xs more i x e u =
    ap (λ (ys : List ℕ). length (units_of_ends ys)) (drop_place xs i x e)
    ∙ (ap (λ (ys : List ℕ). length (ys ++ units_of_ends (drop (i + 1) xs))) u ∙ length-append more (units_of_ends (drop (i + 1) xs)))

-- ---- boundaries that are counted
single_more : (xs : List ℕ) (i x : ℕ) → slice_get xs i ≡ Some x → x < 0x10000
    → count_of_singles (drop i xs) ≡ suc (count_of_singles (drop (i + 1) xs))
single_more xs i x e h = ap count_of_singles (drop_place xs i x e) ∙ ap length (cond-true _ _ _ (lt-ltb x 0x10000 h))

no_single_more : (xs : List ℕ) (i x : ℕ) → slice_get xs i ≡ Some x → 0x10000 ≤ x
    → count_of_singles (drop i xs) ≡ count_of_singles (drop (i + 1) xs)
no_single_more xs i x e h = ap count_of_singles (drop_place xs i x e) ∙ ap length (cond-false _ _ _ (le-ltb x 0x10000 h))

-- The number of units of the first i boundaries, and how many of these boundaries take one unit.
pub record Counted (xs : List ℕ) (i u s : ℕ) : Type 0 where
  pub units : u + length (units_of_ends (drop i xs)) ≡ length (units_of_ends xs)
  pub singles : s + count_of_singles (drop i xs) ≡ count_of_singles xs
  pub few_units : u ≤ 2 * i
  pub few_singles : s ≤ i

pub counted_none : (xs : List ℕ) → Counted xs 0 0 0
counted_none xs = record { units = omega arith; singles = omega arith; few_units = omega arith; few_singles = omega arith }

pub counted_single : (xs : List ℕ) (i u s x : ℕ) → slice_get xs i ≡ Some x → x < 0x10000 → Counted xs i u s
    → Counted xs (i + 1) (u + 1) (s + 1)
counted_single xs i u s x e h c =
    let a = left_more xs (x ∷ []) i x e (units_of_single x h) in
    let b = single_more xs i x e h in
    record { units = omega arith; singles = omega arith; few_units = omega arith; few_singles = omega arith }

pub counted_pair : (xs : List ℕ) (i u s x : ℕ) → slice_get xs i ≡ Some x → 0x10000 ≤ x → x < code_point_limit → Counted xs i u s
    → Counted xs (i + 1) (u + 2) s
counted_pair xs i u s x e h l c =
    let a = left_more xs (x / 0x10000 ∷ x % 0x10000 ∷ []) i x e (units_of_pair x h l) in
    let b = no_single_more xs i x e h in
    record { units = omega arith; singles = omega arith; few_units = omega arith; few_singles = omega arith }

pub counted_limit : (xs : List ℕ) (i u s x : ℕ) → slice_get xs i ≡ Some x → code_point_limit ≤ x → Counted xs i u s → Counted xs (i + 1) u s
counted_limit xs i u s x e h c =
    let a = left_more xs [] i x e (units_of_limit x h) in
    let b = no_single_more xs i x e (omega arith) in
    record { units = omega arith; singles = omega arith; few_units = omega arith; few_singles = omega arith }

pub counted_units : (xs : List ℕ) (i u s : ℕ) → length xs ≤ i → Counted xs i u s → u ≡ length (units_of_ends xs)
counted_units xs i u s h c = let a : length (units_of_ends (drop i xs)) ≡ 0 =
    ap (λ (ys : List ℕ). length (units_of_ends ys)) (drop_all i xs h) in let b = c.units in omega arith

pub counted_singles : (xs : List ℕ) (i u s : ℕ) → length xs ≤ i → Counted xs i u s → s ≡ count_of_singles xs
counted_singles xs i u s h c = let a : count_of_singles (drop i xs) ≡ 0 = ap count_of_singles (drop_all i xs h) in let b = c.singles in
    omega arith
