-- How a binary search narrows what is left.
use Rattle.std.proofs.Common.{◌≡◌, ℕ, zero, suc, ◌+◌, ◌*◌, ◌-◌, ◌<◌, ◌≤◌, List, length, slice_get, get_or, Some, Bool, true, false, refl, arith, ap, ◌∙◌, sym}
use mir.Val.{bool_byte}
use Rattle.std.specs.declared.cmp.Ordering.{Ordering}
use Rattle.std.specs.declared.cmp.Ordering.TheVariants.{Less, Equal, Greater}
use Rattle.std.specs.Ordering.{ordering_index, is_le}
use Rattle.std.specs.List.{HoldsAt}
use Rattle.std.specs.List.Sorted.{IsPartitionPoint}
use Rattle.std.proofs.lemmas.Option.{get_or_from_slice_get, slice_get_within}
use Rattle.icu_zerovec.specs.Inside.Searches.{Rises, IsNarrowed, IsStepCount}

-- All values before one that is `Less` are `Less`.
least : (o p : Ordering) → ordering_index o ≤ ordering_index p → p ≡ Less → o ≡ Less
least Less p h e = refl
least Equal p h e = let k : ordering_index p ≡ 0 = ap ordering_index e in absurd (omega arith)
least Greater p h e = let k : ordering_index p ≡ 0 = ap ordering_index e in absurd (omega arith)

-- All values after one that is `Greater` are `Greater`.
greatest : (o p : Ordering) → ordering_index o ≤ ordering_index p → is_le o ≡ false → p ≡ Greater
greatest Less p h e = cc
greatest Equal p h e = cc
greatest Greater Less h e = absurd (omega arith)
greatest Greater Equal h e = absurd (omega arith)
greatest Greater Greater h e = refl

-- A comparison counts at most one.
pub byte_le : (b : Bool) → bool_byte b ≤ 1
byte_le true = omega arith
byte_le false = omega arith

module _ {X : Type 0} (ord : X → Ordering) (xs : List X) where
  -- The result at i is `Greater` or it is not.
  abbrev Low : Bool → ℕ → Type 0
  Low b i = HoldsAt (λ y. is_le (ord y) ≡ b) xs i

  moved : (b : Bool) (i j : ℕ) → i ≡ j → Low b i → Low b j
  moved b i j e h = λ d. ap (λ k. is_le (ord (get_or xs k d))) (sym e) ∙ h d

  -- All values after one that is `Greater` are `Greater`, as a range.
  great : Rises ord xs → (i j : ℕ) → Low false i → i ≤ j → j < length xs → HoldsAt (λ y. ord y ≡ Greater) xs j
  great r i j h a b = λ d. greatest _ _ (r i j d a b) (h d)

  never : Rises ord xs → (i j : ℕ) → Low false i → Low true j → i ≤ j → j < length xs → X → ⊥
  never r i j h g a b d = let t : false ≡ true = sym (ap is_le (great r i j h a b d)) ∙ g d in absurd cc

  -- ---- three values in steps
  pub counted : (low step : ℕ) (a b c : Bool) → low + 3 * step < length xs → Low a (low + step) → Low b (low + 2 * step)
      → Low c (low + 3 * step)
      → IsStepCount ord xs low step (bool_byte a + bool_byte b + bool_byte c)
  counted low step true true true l p q s = record {
    within = omega arith;
    reached = λ r h. moved true _ _ (omega arith) s;
    past = λ r h. absurd (omega arith);
  }
  counted low step true true false l p q s = record {
    within = omega arith;
    reached = λ r h. moved true _ _ (omega arith) q;
    past = λ r h. great r _ _ s (omega arith) (omega arith);
  }
  counted low step true false true l p q s = record {
    within = omega arith;
    reached = λ r h d. absurd (never r _ _ q s (omega arith) l d);
    past = λ r h d. absurd (never r _ _ q s (omega arith) l d);
  }
  counted low step true false false l p q s = record {
    within = omega arith;
    reached = λ r h. moved true _ _ (omega arith) p;
    past = λ r h. great r _ _ q (omega arith) (omega arith);
  }
  counted low step false true c l p q s = record {
    within = within_three c;
    reached = λ r h d. absurd (never r _ _ p q (omega arith) (omega arith) d);
    past = λ r h d. absurd (never r _ _ p q (omega arith) (omega arith) d);
  }
    where
      within_three : (c : Bool) → step * (bool_byte false + bool_byte true + bool_byte c) ≤ 3 * step
      within_three true = omega arith
      within_three false = omega arith
  counted low step false false true l p q s = record {
    within = omega arith;
    reached = λ r h d. absurd (never r _ _ p s (omega arith) l d);
    past = λ r h d. absurd (never r _ _ p s (omega arith) l d);
  }
  counted low step false false false l p q s = record {
    within = omega arith;
    reached = λ r h. absurd (omega arith);
    past = λ r h. great r _ _ p (omega arith) (omega arith);
  }

  -- The search continues from the last of them that is not `Greater`.
  reached_from : (low end step k : ℕ) → IsNarrowed ord xs low end → IsStepCount ord xs low step k → Rises ord xs → 0 < low + step * k
      → Low true (low + step * k)
  reached_from low end step zero n s r h = moved true low _ (omega arith) (n.reached r (omega arith))
  reached_from low end step (suc k) n s r h = s.reached r (omega arith)

  past_from : (low size step k top : ℕ) → 4 * step ≤ size → top ≡ low + step * k + (size - 3 * step) → IsNarrowed ord xs low (low + size)
      → IsStepCount ord xs low step k → Rises ord xs
      → (j : ℕ) (d : X) → top ≤ j → j < length xs → ord (get_or xs j d) ≡ Greater
  past_from low size step zero top f e n s r j d a b = great r _ j (λ g. ap is_le (s.past r (omega arith) g)) (omega arith) b d
  past_from low size step (suc zero) top f e n s r j d a b = great r _ j (λ g. ap is_le (s.past r (omega arith) g)) (omega arith) b d
  past_from low size step (suc (suc zero)) top f e n s r j d a b = great r _ j (λ g. ap is_le (s.past r (omega arith) g)) (omega arith) b d
  past_from low size step (suc (suc (suc k))) top f e n s r j d a b = n.past r j d (omega (arith, s.within)) b

  pub stepped : (low size step k : ℕ) → 4 * step ≤ size → IsNarrowed ord xs low (low + size) → IsStepCount ord xs low step k
      → IsNarrowed ord xs (low + step * k) (low + step * k + (size - 3 * step))
  stepped low size step k f n s = record {
    reached = reached_from low (low + size) step k n s;
    past = past_from low size step k _ f refl n s;
  }

  -- ---- one value after another
  pub one_step : (low size : ℕ) (b : Bool) → low + 1 < length xs → Low b (low + 1) → 1 < size → IsNarrowed ord xs low (low + size)
      → IsNarrowed ord xs (low + bool_byte b) (low + bool_byte b + (size - 1))
  one_step low size true l h m n = record {
    reached = λ r p. h;
    past = λ r j d a b. n.past r j d (omega arith) b;
  }
  one_step low size false l h m n = record {
    reached = λ r p. moved true low _ (omega arith) (n.reached r (omega arith));
    past = λ r j d a b. great r (low + 1) j h (omega arith) b d;
  }

  -- ---- one value is left
  -- What is returned for its index is right.
  pub holds_at : (low : ℕ) (y : X) → slice_get xs low ≡ Some y → (o : Ordering) → ord y ≡ o → HoldsAt (λ z. ord z ≡ o) xs low
  holds_at low y at o e d = ap ord (get_or_from_slice_get xs low y d at) ∙ e

  -- A smaller value is the last one before the index.
  pub place_past : (low end : ℕ) (y : X) → slice_get xs low ≡ Some y → ord y ≡ Less → end ≤ low + 1 → IsNarrowed ord xs low end
      → Rises ord xs → IsPartitionPoint (λ y. ord y ≡ Less) (λ y. ord y ≡ Greater) xs (low + 1)
  place_past low end y at e l n r = (
    λ k d a b. least _ _ (r k low d (omega arith) (slice_get_within xs low y at)) (holds_at low y at Less e d),
    λ k d a b. n.past r k d (omega arith) b,
  )

  -- A greater value is the first of all.
  pub place_of_first : (low end : ℕ) (y : X) → slice_get xs low ≡ Some y → ord y ≡ Greater → IsNarrowed ord xs low end
      → Rises ord xs → IsPartitionPoint (λ y. ord y ≡ Less) (λ y. ord y ≡ Greater) xs low
  place_of_first low end y at e n r =
      let h : Low false low = λ d. ap is_le (holds_at low y at Greater e d) in (
        λ k d a b. absurd (never r low low h (n.reached r (omega arith)) (omega arith) (slice_get_within xs low y at) d),
        λ k d a b. great r low k h a b d,
      )
