-- Units in bytes, and the steps of a cursor over them.
use Rattle.std.proofs.Common.{◌≡◌, ℕ, zero, suc, ◌+◌, ◌*◌, ◌/◌, ◌%◌, List, [], ◌∷◌, ◌++◌, length, take, drop, slice_get, Option, Some, option_to_list, refl, ap, ◌∙◌, subst, arith, inl, inr}
use Rattle.std.proofs.lemmas.List.{drop-take, length-take-le, take-take}
use Rattle.icu_zerovec.specs.Cells.{values_from, values_of}
use Rattle.icu_zerovec.specs.PackedBytes.{number_of}
use Rattle.icu_char16trie.specs.Grammar.{IsTrieOf, node, empty}
use Rattle.icu_char16trie.specs.Steps.{StepsAlong, StepsTo}
use Rattle.icu_char16trie.specs.UnitMap.{UnitMap, after_all}
use Rattle.icu_char16trie.specs.UnitPlaces.{Stands}
use Rattle.icu_collections_c.proofs.CellLemmas.{length-values_of}
use Rattle.icu_collections_c.specs.UnitTries.{units_of}
use Rattle.icu_char16trie.specs.declared.place.Place.{Place}
use Rattle.icu_char16trie.specs.declared.place.Place.TheVariants.{Node}

-- ---- units in bytes
module _ {T : Type 0} (f : List ℕ → Option T) where
  values_from-take : (n : ℕ) (b : List ℕ) → values_from f 2 (take (n * 2) b) n ≡ values_from f 2 b n
  values_from-take zero b = refl
  values_from-take (suc n) b =
      let two : suc n * 2 ≡ 2 + n * 2 = omega arith in
      let front : take 2 (take (2 + n * 2) b) ≡ take 2 b = take-take 2 (2 + n * 2) b (omega arith) in
      let rest : drop 2 (take (2 + n * 2) b) ≡ take (n * 2) (drop 2 b) = drop-take 2 (n * 2) b in
      rw (two, front, rest) (ap (λ xs. option_to_list (f (take 2 b)) ++ xs) (values_from-take n (drop 2 b)))

  -- An odd last byte is in no cell.
  pub even-values_of : (b : List ℕ) → values_of f 2 (take (length b / 2 * 2) b) ≡ values_of f 2 b
  unfolding values_of
  even-values_of b =
      let long : length (take (length b / 2 * 2) b) ≡ length b / 2 * 2 = length-take-le (length b / 2 * 2) b (omega arith) in
      let cells : length (take (length b / 2 * 2) b) / 2 ≡ length b / 2 = omega arith in
      ap (values_from f 2 (take (length b / 2 * 2) b)) cells ∙ values_from-take (length b / 2) b

-- Whole units.
pub whole_units : (b : List ℕ) → length b % 2 ≡ 0 → length b ≡ 2 * length (units_of b)
whole_units b even = let cells = length-values_of (λ cell. Some (number_of 2 cell)) 2 (λ _. refl) b in omega (arith, cells, even)

-- ---- steps
-- one more unit
pub along_push : (units : List ℕ) (from mid to : Place) (w : List ℕ) (u : ℕ) → StepsAlong units from w mid → StepsTo units mid u to
    → StepsAlong units from (w ++ u ∷ []) to
along_push units from mid to [] u h k = (to, subst (λ z. StepsTo units z u to) h k, refl)
along_push units from mid to (x ∷ w) u h k = (h.0, h.1, along_push units h.0 mid to w u h.2 k)

-- The root of a trie is the position of its whole map.
pub root_stands : (units : List ℕ) (m : UnitMap) → IsTrieOf units m → Stands units (Node 0) (after_all [] m)
unfolding after_all
root_stands units m (node h) = inl h
root_stands units m (empty u e) = inr (ap (λ z. slice_get z 0) u, e)
