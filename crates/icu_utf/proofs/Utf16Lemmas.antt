-- The code points of 16-bit units, one by one.
use Rattle.std.proofs.Common.{◌≡◌, refl, ℕ, ◌≤◌, List, [], ◌∷◌, length, Bool, true, false, ◌&&◌, arith}
use Rattle.std.specs.Char.Utf16.{is_high_surrogate, is_low_surrogate, surrogate_pair_char}
use Rattle.icu_utf.specs.Utf16.{code_points_of}

pub code_points-nil : code_points_of [] ≡ []
unfolding code_points_of
code_points-nil = refl

-- A unit that is not a high surrogate is a code point of its own.
pub code_points_alone : (u : ℕ) (us : List ℕ) → is_high_surrogate u ≡ false → code_points_of (u ∷ us) ≡ u ∷ code_points_of us
unfolding code_points_of
code_points_alone u [] e = refl
code_points_alone u (v ∷ us) e = rw e refl

-- The last unit is a code point of its own.
pub code_points_last : (u : ℕ) → code_points_of (u ∷ []) ≡ u ∷ code_points_of []
unfolding code_points_of
code_points_last u = refl

-- A high surrogate before a unit that is not a low surrogate is a code point of its own.
pub code_points_before : (u v : ℕ) (us : List ℕ) → is_high_surrogate u ≡ true → is_low_surrogate v ≡ false
    → code_points_of (u ∷ v ∷ us) ≡ u ∷ code_points_of (v ∷ us)
unfolding code_points_of
code_points_before u v us e f = rw (e, f) refl

pub code_points_pair : (u v : ℕ) (us : List ℕ) → is_high_surrogate u ≡ true → is_low_surrogate v ≡ true
    → code_points_of (u ∷ v ∷ us) ≡ surrogate_pair_char u v ∷ code_points_of us
unfolding code_points_of
code_points_pair u v us e f = rw (e, f) refl

-- There are no more code points than units.
length_by_pair : (u v : ℕ) (us : List ℕ) (b : Bool) → (is_high_surrogate u && is_low_surrogate v) ≡ b
    → length (code_points_of us) ≤ length us
    → length (code_points_of (v ∷ us)) ≤ length (v ∷ us) → length (code_points_of (u ∷ v ∷ us)) ≤ length (u ∷ v ∷ us)
unfolding code_points_of
length_by_pair u v us true e after rest = rw e (omega arith)
length_by_pair u v us false e after rest = rw e (omega arith)

pub length-code_points : (us : List ℕ) → length (code_points_of us) ≤ length us
unfolding code_points_of
length-code_points [] = omega arith
length-code_points (u ∷ []) = omega arith
length-code_points (u ∷ v ∷ us) = length_by_pair u v us (is_high_surrogate u && is_low_surrogate v) refl (length-code_points us)
    (length-code_points (v ∷ us))
