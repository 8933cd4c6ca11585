-- The laws that each `impl` of `TrieValue` uses: the number of a value gives the value back, and
-- values are equal exactly if their numbers are. They are specs because an `impl` may use nothing
-- else of a crate.
use Rattle.std.specs.Prelude.{◌≡◌, ℕ, ◌^◌, ◌<◌, ◌≤◌, nat_eq, true, Some, ℤ, pos, negsuc, ◌↔◌, IsTrue, FitsSigned}
use Rattle.std.specs.Int.{Width, w32, cast_unsigned, cast_signed}
use Rattle.std.specs.Ordering.{int_eq}
use Rattle.std.specs.Char.{IsScalar}
use Rattle.std.proofs.Common.{arith, ap, sym, ◌∙◌, refl}
use Rattle.std.proofs.lemmas.Bool.{lt-ltb, eqb-true, eq-eqb}
use Rattle.std.proofs.lemmas.Bool.Decides.{Decides-int_eq}
use Rattle.std.proofs.lemmas.Int.{to_z-of_z}
use Rattle.icu_trie_core.specs.ValueNumbers.{fitting, is_within, signed_fitting, character}
use mir.Val.{hbits}

-- A number below the limit gives itself back.
pub fitting-small : (limit x : ℕ) → x < limit → fitting limit x ≡ Some x
fitting-small limit x h = rw (lt-ltb x limit h) refl

-- Unsigned values are equal exactly if their numbers are.
pub equal_numbers : (x y : ℕ) → IsTrue (nat_eq x y) ↔ (x ≡ y)
equal_numbers x y = (eqb-true x y, eq-eqb x y)

-- A Unicode scalar value gives itself back.
pub character-scalar : (c : ℕ) → IsScalar c → character c ≡ Some c
character-scalar c h = rw h refl

-- ---- A signed value of at most 32 bits, numbered by its 32-bit two's complement.
module _ (w : Width) (most : 2 ^ hbits w ≤ 2 ^ 31) where
  back : (z : ℤ) → FitsSigned w z → cast_signed w32 (cast_unsigned w32 z) ≡ z
  back z h = to_z-of_z w32 z (record { sfits = omega (arith, h, most) })

  within : (z : ℤ) → FitsSigned w z → is_within (2 ^ hbits w) z ≡ true
  within (pos n) h = lt-ltb n (2 ^ hbits w) h.sfits
  within (negsuc n) h = lt-ltb n (2 ^ hbits w) h.sfits

  -- The number of a signed value gives the value back.
  pub signed_fitting-number : (z : ℤ) → FitsSigned w z
      → signed_fitting (2 ^ hbits w) (cast_unsigned w32 z) ≡ Some z
  signed_fitting-number z h = rw (back z h, within z h) refl

  -- Signed values are equal exactly if their numbers are.
  pub equal_signed_numbers : (x y : ℤ) → FitsSigned w x → FitsSigned w y
      → IsTrue (int_eq x y) ↔ (cast_unsigned w32 x ≡ cast_unsigned w32 y)
  equal_signed_numbers x y hx hy = (
    λ e. ap (cast_unsigned w32) ((Decides-int_eq x y).0 e),
    λ e. (Decides-int_eq x y).1 (sym (back x hx) ∙ ap (cast_signed w32) e ∙ back y hy),
  )
