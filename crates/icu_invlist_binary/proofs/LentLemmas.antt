-- Boundaries in borrowed units, by their indices, and whether they are an inversion list.
use Rattle.std.proofs.Common.{◌≡◌, ◌∙◌, ℕ, ◌+◌, ◌-◌, ◌*◌, ◌/◌, ◌<◌, ◌≤◌, List, [], ◌∷◌, ◌++◌, length, get_or, refl, sym, arith, zero, suc, ◌⊎◌}
use Rattle.std.proofs.lemmas.List.{get_or-append_right, length-append}
use Rattle.icu_zerovec.specs.CodePoints.{code_point_limit}
use Rattle.icu_invlist_binary.specs.SerializedSet.{ends_of_pairs}

-- ---- boundaries of two units
pub length-pairs : (us : List ℕ) → length (ends_of_pairs us) ≡ length us / 2
length-pairs [] = refl
length-pairs (u ∷ []) = refl
length-pairs (u ∷ w ∷ us) = let a = length-pairs us in omega arith

pub pair_at : (us : List ℕ) (k : ℕ) → k < length (ends_of_pairs us)
    → get_or (ends_of_pairs us) k 0 ≡ get_or us (2 * k) 0 * 0x10000 + get_or us (2 * k + 1) 0
pair_at [] k h = absurd (omega arith)
pair_at (u ∷ []) k h = absurd (omega arith)
pair_at (u ∷ w ∷ us) zero h = refl
pair_at (u ∷ w ∷ us) (suc k) h =
    let a : 2 * suc k ≡ suc (suc (2 * k)) = omega arith in
    let b : 2 * suc k + 1 ≡ suc (suc (2 * k + 1)) = omega arith in
    rw (b, a) (pair_at us k (omega arith))

-- ---- boundaries of one unit, followed by those of two
pub length-lent : (ss ps : List ℕ) → length (ss ++ ends_of_pairs ps) ≡ length ss + length ps / 2
length-lent ss ps = let a = length-append ss (ends_of_pairs ps) in let b = length-pairs ps in omega arith

pub pair_within : (ss ps : List ℕ) (i : ℕ) → i < length (ss ++ ends_of_pairs ps) → length ss ≤ i → 2 * (i - length ss) + 1 < length ps
pair_within ss ps i h l = let a = length-lent ss ps in omega arith

pub pair_end : (ss ps : List ℕ) (i : ℕ) → i < length (ss ++ ends_of_pairs ps) → length ss ≤ i
    → get_or ps (2 * (i - length ss)) 0 * 0x10000 + get_or ps (2 * (i - length ss) + 1) 0 ≡ get_or (ss ++ ends_of_pairs ps) i 0
pair_end ss ps i h l =
    let a = length-append ss (ends_of_pairs ps) in
    sym (get_or-append_right ss (ends_of_pairs ps) (length ss) i 0 refl l ∙ pair_at ps (i - length ss) (omega arith))

-- ---- the loop of the test
-- The first i boundaries are ascending and below `next`, which is 0 or one more than the last of
-- them.
pub record Walked (xs : List ℕ) (i next : ℕ) : Type 0 where
  pub rises : (k : ℕ) → k + 1 < i → get_or xs k 0 < get_or xs (k + 1) 0
  pub below : (k : ℕ) → k < i → get_or xs k 0 < next
  pub small : next ≤ suc code_point_limit
  pub tight : (next ≡ 0) ⊎ ((k : ℕ) × (i ≡ k + 1) × (get_or xs k 0 + 1 ≡ next))
