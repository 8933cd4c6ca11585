-- The value at a position and its emptiness are those of the map that it represents.
use Rattle.std.proofs.Common.{◌≡◌, ℕ, ℤ, ◌<◌, ◌≤◌, true, false, not, List, [], ◌∷◌, ◌++◌, refl, sym, ap, ◌∙◌, arith, slice_get, inl, inr}
use Rattle.std.proofs.lemmas.Bool.{lt-ltb, le-ltb}
use Rattle.std.proofs.lemmas.Bool.Decides.{nat_tests}
use Rattle.std.specs.Prelude.{nat_le}
use Rattle.icu_char16trie.specs.Grammar.{Holds, final, plain, valued, IsTrieOf}
use Rattle.icu_char16trie.specs.Grammar as grammar
use Rattle.icu_char16trie.specs.UnitMap.{under, after, after_all, value_of, same_key, goes_on, key_goes_on}
use Rattle.icu_char16trie.specs.Passed.{answer_at, result_of}
use Rattle.icu_char16trie.specs.UnitPlaces.{Stands, At, HasPassed, value_at, is_empty_at}
use Rattle.icu_char16trie.specs.declared.place.Place.{Place}
use Rattle.icu_char16trie.specs.declared.place.Place.TheVariants.{Nowhere, Node, Run}
use Rattle.icu_char16trie.proofs.MapLemmas.{value_after_all, goes_on_after_all, after_all_push}
use Rattle.icu_char16trie.proofs.NodeLemmas.{matches_no_root, matches_on, run_keys_first, value_under, holds_has, HasEntry}

from_no : (a b : ℕ) → b < a → nat_le a b ≡ false
from_no a b h = grind (arith, nat_tests)

pub from_yes : (a b : ℕ) → a ≤ b → nat_le a b ≡ true
from_yes a b h = grind (arith, nat_tests)

pub value_holds : (units : List ℕ) {p : ℕ} {m : List (List ℕ × ℤ)} → Holds units p m → value_at units (Node p) ≡ value_of m []
unfolding value_of same_key
value_holds units (final p lead n m g le s e) =
    rw (g, le-ltb lead 0x40 (omega arith), le-ltb lead 0x8000 le, s, e) refl
value_holds units (plain p lead m g lt node) =
    rw (g, lt-ltb lead 0x40 lt) (sym (matches_no_root units node))
value_holds units (valued p lead n m rest g ge lt s node e) =
    rw (g, le-ltb lead 0x40 ge, lt-ltb lead 0x8000 lt, s, e) refl

empty_holds : (units : List ℕ) {p : ℕ} {m : List (List ℕ × ℤ)} → Holds units p m → is_empty_at units (Node p) ≡ not (goes_on m [])
unfolding goes_on key_goes_on
empty_holds units (final p lead n m g le s e) = rw (g, from_yes 0x8000 lead le, e) refl
empty_holds units (plain p lead m g lt node) = rw (g, from_no 0x8000 lead (omega arith), matches_on units node) refl
empty_holds units (valued p lead n m rest g ge lt s node e) = rw (g, from_no 0x8000 lead lt, e, matches_on units node) refl

under_on : (x : ℕ) (front : List ℕ) (m : List (List ℕ × ℤ)) → HasEntry m → goes_on (under (x ∷ front) m) [] ≡ true
unfolding goes_on key_goes_on
under_on x front m t = ap (λ z. goes_on (under (x ∷ front) z) []) t.2

pub value_stands : (units : List ℕ) (place : Place) (m : List (List ℕ × ℤ)) → Stands units place m → value_at units place ≡ value_of m []
unfolding value_of
value_stands units Nowhere m h = rw h refl
value_stands units (Node p) m (inl h) = value_holds units h
value_stands units (Node p) m (inr h) = rw (h.0, h.1) refl
value_stands units (Run p left) m h =
    let f = run_keys_first units p left m h in sym (ap (λ z. value_of z []) f.2 ∙ value_under f.0 f.1 h.rest)

pub empty_stands : (units : List ℕ) (place : Place) (m : List (List ℕ × ℤ)) → Stands units place m
    → is_empty_at units place ≡ not (goes_on m [])
unfolding goes_on key_goes_on
empty_stands units Nowhere m h = rw h refl
empty_stands units (Node p) m (inl h) = empty_holds units h
empty_stands units (Node p) m (inr h) = rw (h.0, h.1) refl
empty_stands units (Run p left) m h =
    let f = run_keys_first units p left m h in
    sym (ap (λ z. not (goes_on z [])) f.2 ∙ ap not (under_on f.0 f.1 h.rest (holds_has units h.node)))

-- The same after the units w from the root.
pub value_is_after : (cursor : At) (m : List (List ℕ × ℤ)) (w : List ℕ) → HasPassed cursor m w
    → value_at cursor.units cursor.place ≡ value_of m w
value_is_after cursor m w h = value_stands cursor.units cursor.place (after_all w m) h ∙ sym (value_after_all w m)

pub empty_is_after : (cursor : At) (m : List (List ℕ × ℤ)) (w : List ℕ) → HasPassed cursor m w
    → is_empty_at cursor.units cursor.place ≡ not (goes_on m w)
empty_is_after cursor m w h = empty_stands cursor.units cursor.place (after_all w m) h ∙ ap not (sym (goes_on_after_all w m))

-- The result after units of a trie have been passed.
pub answer_is_after : (cursor : At) (m : List (List ℕ × ℤ)) (w : List ℕ) → HasPassed cursor m w
    → answer_at cursor ≡ result_of (value_of m w) (not (goes_on m w))
answer_is_after cursor m w h = rw (value_is_after cursor m w h, empty_is_after cursor m w h) refl

pub step_is_after : (units : List ℕ) (place : Place) (m : List (List ℕ × ℤ)) (w : List ℕ) (u : ℕ)
    → Stands units place (after u (after_all w m)) → Stands units place (after_all (w ++ u ∷ []) m)
step_is_after units place m w u h = rw (after_all_push w u m) h

-- The root of a trie represents its map.
pub root_stands : (units : List ℕ) (m : List (List ℕ × ℤ)) → IsTrieOf units m → Stands units (Node 0) m
root_stands units m (grammar.node h) = inl h
root_stands units m (grammar.empty u e) = inr (ap (λ z. slice_get z 0) u, e)
