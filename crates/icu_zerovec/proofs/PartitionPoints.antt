-- The partition point of the elements that are `Less` is the result of a binary search.
use Rattle.std.proofs.Common.{◌≡◌, ℕ, ◌<◌, ◌≤◌, List, length, Some, None, Bor, true, false, refl, arith}
use Rattle.std.specs.declared.cmp.Ordering.{Ordering}
use Rattle.std.specs.declared.cmp.Ordering.TheVariants.{Less, Equal, Greater}
use Rattle.std.specs.declared.result.Result.TheVariants.{Ok, Err}
use Rattle.std.specs.Ordering.{ordering_index, is_lt, is_eq}
use Rattle.std.specs.List.{HoldsAt}
use Rattle.std.specs.List.Sorted.{IsPartitionedBy, IsPartitionPoint, IsBinarySearchResult}
use Rattle.std.specs.Slice.{IsItemAt}
use Rattle.std.proofs.lemmas.List.Elements.{at_read}
use Rattle.icu_zerovec.specs.Inside.Searches.{Rises}

less : (o : Ordering) → is_lt o ≡ true → o ≡ Less
less Less e = refl
less Equal e = cc
less Greater e = cc

equal : (o : Ordering) → is_eq o ≡ true → o ≡ Equal
equal Less e = cc
equal Equal e = refl
equal Greater e = cc

-- All before one that is `Less` are `Less`.
less_before : (o p : Ordering) → ordering_index o ≤ ordering_index p → is_lt p ≡ true → is_lt o ≡ true
less_before Less p h e = refl
less_before Equal Less h e = absurd (omega arith)
less_before Equal Equal h e = cc
less_before Equal Greater h e = cc
less_before Greater Less h e = absurd (omega arith)
less_before Greater Equal h e = cc
less_before Greater Greater h e = cc

-- All after one that is neither `Less` nor `Equal` are `Greater`.
greater_after : (o p : Ordering) → ordering_index o ≤ ordering_index p → is_lt o ≡ false → is_eq o ≡ false → p ≡ Greater
greater_after Less p h a b = cc
greater_after Equal p h a b = cc
greater_after Greater Less h a b = absurd (omega arith)
greater_after Greater Equal h a b = absurd (omega arith)
greater_after Greater Greater h a b = refl

module _ {X : Type 0} (ord : X → Ordering) (xs : List X) where
  -- If the elements ascend, those before `low` are `Less`, and no other is.
  abbrev pub IsSplitIfRising : ℕ → Type 0
  IsSplitIfRising low = Rises ord xs → IsPartitionPoint (λ y. is_lt (ord y) ≡ true) (λ y. is_lt (ord y) ≡ false) xs low

  pub less_first : Rises ord xs → IsPartitionedBy (λ y. is_lt (ord y)) xs
  less_first r i j d a l e = less_before _ _ (r i j d a l) e

  -- If the element at `low` is equal, it is found.
  pub found : (low : ℕ) (x : Bor X) → IsItemAt xs low (Some x) → is_eq (ord x.now) ≡ true → IsBinarySearchResult ord xs (Ok low)
  found low x at e = at_read xs (λ y. ord y ≡ Equal) low x.now at.3.0 at.1 (equal (ord x.now) e)

  place : (low : ℕ) → (low < length xs → HoldsAt (λ y. is_eq (ord y) ≡ false) xs low) → IsSplitIfRising low
      → IsBinarySearchResult ord xs (Err low)
  place low h s = λ r. let t = s r in (
    λ k d a b. less _ (t.0 k d a b),
    λ k d a b. let l : low < length xs = omega arith in
        greater_after _ _ (r low k d a b) (t.1 low d (omega arith) l) (h l d),
  )

  -- If the element at `low` is not equal, `low` is where an equal one could be inserted.
  pub place_before : (low : ℕ) (x : Bor X) → IsItemAt xs low (Some x) → is_eq (ord x.now) ≡ false → IsSplitIfRising low
      → IsBinarySearchResult ord xs (Err low)
  place_before low x at e s = place low (λ l. at_read xs (λ y. is_eq (ord y) ≡ false) low x.now l at.1 e) s

  -- The same holds if `low` is the end.
  pub place_at_end : (low : ℕ) → IsItemAt xs low None → IsSplitIfRising low → IsBinarySearchResult ord xs (Err low)
  place_at_end low at s = place low (λ l. absurd (omega (arith, l, at.3))) s
