-- The offsets of blocks.
use Rattle.std.proofs.Common.{◌≡◌, ◌∙◌, ap, ℕ, ◌-◌, ◌<◌, min, List, arith}
use Rattle.icu_frozen_sets.specs.FrozenWords.{offset_at, offset_words, place_in}

-- The offset of U+0000's block is the number of offsets.
pub place_of_first : (t : List ℕ) → place_in t 0 ≡ offset_words t
place_of_first t =
    let none : min 0 (offset_words t - 1) ≡ 0 = omega arith in
    ap (λ (k : ℕ). offset_at t k) none

-- With as many offsets, and the same offset at its position, a block has the same offset.
pub same_place : (t new : List ℕ) (b : ℕ) → offset_words new ≡ offset_words t
    → offset_at new (min b (offset_words t - 1)) ≡ offset_at t (min b (offset_words t - 1)) → place_in new b ≡ place_in t b
same_place t new b e same = ap (λ (n : ℕ). offset_at new (min b (n - 1))) e ∙ same

-- The offset at the position of a block is its own.
pub place_inside : (t : List ℕ) (b : ℕ) → b < offset_words t → place_in t b ≡ offset_at t b
place_inside t b l =
    let inside : min b (offset_words t - 1) ≡ b = omega (arith, l) in
    ap (λ (k : ℕ). offset_at t k) inside
