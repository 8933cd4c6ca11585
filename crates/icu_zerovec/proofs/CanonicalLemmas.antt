-- Each type of this crate has one encoding of each value. A caller's proof uses this to meet the
-- premise `IsCanonical` of a clause.
use Rattle.std.specs.Prelude.{◌≡◌, ℕ, ◌^◌, ◌<◌, List, [], ◌∷◌, length, Some}
use Rattle.std.specs.Int.{w8, w16, w32, cast_signed, cast_unsigned}
use Rattle.std.proofs.Common.{arith, sym, ◌∙◌, ap}
use Rattle.std.proofs.lemmas.Int.{of_z-to_z}
use Rattle.std.proofs.lemmas.Option.{same_Some, cond_some}
use Rattle.icu_zerovec.specs.Canonical.{IsCanonical}
use Rattle.icu_zerovec.specs.PackedBytes.{low_bytes, number_of, scalar_of, AreBytes}

-- These k bytes are the bytes of their number.
abbrev pub MakesBack : ℕ → Type 0
MakesBack k = (b : List ℕ) → length b ≡ k → AreBytes b → low_bytes k (number_of k b) ≡ b

-- ---- lists that agree part by part
one_list : (x y : ℕ) → x ≡ y → x ∷ [] ≡ y ∷ []
one_list x y e = ap (λ k. k ∷ []) e

more_list : (x y : ℕ) (xs ys : List ℕ) → x ≡ y → xs ≡ ys → x ∷ xs ≡ y ∷ ys
more_list x y xs ys e h = cc

-- ---- bytes are the bytes of their number
pub low_bytes-1 : MakesBack 1
low_bytes-1 [] e h = absurd (omega arith)
low_bytes-1 (x ∷ []) e h = let p : x < 256 = h 0 in one_list _ x (omega arith)
low_bytes-1 (x ∷ y ∷ b) e h = absurd (omega arith)

pub low_bytes-2 : MakesBack 2
low_bytes-2 [] e h = absurd (omega arith)
low_bytes-2 (x ∷ []) e h = absurd (omega arith)
low_bytes-2 (x ∷ y ∷ []) e h =
    let p : x < 256 = h 0 in let q : y < 256 = h 1 in
    more_list _ x _ _ (omega arith) (one_list _ y (omega arith))
low_bytes-2 (x ∷ y ∷ z ∷ b) e h = absurd (omega arith)

pub low_bytes-3 : MakesBack 3
low_bytes-3 [] e h = absurd (omega arith)
low_bytes-3 (x ∷ []) e h = absurd (omega arith)
low_bytes-3 (x ∷ y ∷ []) e h = absurd (omega arith)
low_bytes-3 (x ∷ y ∷ z ∷ []) e h =
    let p : x < 256 = h 0 in let q : y < 256 = h 1 in let r : z < 256 = h 2 in
    more_list _ x _ _ (omega arith) (more_list _ y _ _ (omega arith) (one_list _ z (omega arith)))
low_bytes-3 (x ∷ y ∷ z ∷ w ∷ b) e h = absurd (omega arith)

pub low_bytes-4 : MakesBack 4
low_bytes-4 [] e h = absurd (omega arith)
low_bytes-4 (x ∷ []) e h = absurd (omega arith)
low_bytes-4 (x ∷ y ∷ []) e h = absurd (omega arith)
low_bytes-4 (x ∷ y ∷ z ∷ []) e h = absurd (omega arith)
low_bytes-4 (x ∷ y ∷ z ∷ w ∷ []) e h =
    let p : x < 256 = h 0 in let q : y < 256 = h 1 in let r : z < 256 = h 2 in let s : w < 256 = h 3 in
    more_list _ x _ _ (omega arith) (more_list _ y _ _ (omega arith) (more_list _ z _ _ (omega arith) (one_list _ w (omega arith))))
low_bytes-4 (x ∷ y ∷ z ∷ w ∷ v ∷ b) e h = absurd (omega arith)

-- ---- the number of k bytes has 8 * k bits
pub below-1 : (b : List ℕ) → AreBytes b → number_of 1 b < 2 ^ 8
below-1 b h = omega (arith, h 0)

pub below-2 : (b : List ℕ) → AreBytes b → number_of 2 b < 2 ^ 16
below-2 b h = omega (arith, h 0, h 1)

pub below-4 : (b : List ℕ) → AreBytes b → number_of 4 b < 2 ^ 32
below-4 b h = omega (arith, h 0, h 1, h 2, h 3)

-- ---- the types of this crate
-- Unsigned numbers of k bytes.
unsigned_by : (k : ℕ) → MakesBack k → IsCanonical (low_bytes k) (λ b. Some (number_of k b)) k
unsigned_by k m = record { packs = λ b x e h u. ap (low_bytes k) (sym (same_Some _ _ u)) ∙ m b e h }

pub canonical_u8 : IsCanonical (low_bytes 1) (λ b. Some (number_of 1 b)) 1
canonical_u8 = unsigned_by 1 low_bytes-1

pub canonical_u16 : IsCanonical (low_bytes 2) (λ b. Some (number_of 2 b)) 2
canonical_u16 = unsigned_by 2 low_bytes-2

pub canonical_u32 : IsCanonical (low_bytes 4) (λ b. Some (number_of 4 b)) 4
canonical_u32 = unsigned_by 4 low_bytes-4

pub canonical_point : IsCanonical (low_bytes 3) (λ b. Some (number_of 3 b)) 3
canonical_point = unsigned_by 3 low_bytes-3

pub canonical_i8 : IsCanonical (λ z. low_bytes 1 (cast_unsigned w8 z)) (λ b. Some (cast_signed w8 (number_of 1 b))) 1
canonical_i8 = record {
  packs = λ b x e h u.
      ap (λ z. low_bytes 1 (cast_unsigned w8 z)) (sym (same_Some _ _ u))
      ∙ ap (low_bytes 1) (of_z-to_z w8 _ (below-1 b h)) ∙ low_bytes-1 b e h;
}

pub canonical_i16 : IsCanonical (λ z. low_bytes 2 (cast_unsigned w16 z)) (λ b. Some (cast_signed w16 (number_of 2 b))) 2
canonical_i16 = record {
  packs = λ b x e h u.
      ap (λ z. low_bytes 2 (cast_unsigned w16 z)) (sym (same_Some _ _ u)) ∙ ap (low_bytes 2) (of_z-to_z w16 _ (below-2 b h))
      ∙ low_bytes-2 b e h;
}

pub canonical_i32 : IsCanonical (λ z. low_bytes 4 (cast_unsigned w32 z)) (λ b. Some (cast_signed w32 (number_of 4 b))) 4
canonical_i32 = record {
  packs = λ b x e h u.
      ap (λ z. low_bytes 4 (cast_unsigned w32 z)) (sym (same_Some _ _ u)) ∙ ap (low_bytes 4) (of_z-to_z w32 _ (below-4 b h))
      ∙ low_bytes-4 b e h;
}

pub canonical_char : IsCanonical (low_bytes 3) scalar_of 3
canonical_char = record { packs = λ b x e h u. ap (low_bytes 3) (sym (cond_some _ _ _ u).1) ∙ low_bytes-3 b e h }
