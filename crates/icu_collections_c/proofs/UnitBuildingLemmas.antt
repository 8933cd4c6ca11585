-- Consecutive entries, and the map that they make one after another.
use Rattle.std.proofs.Common.{◌≡◌, refl, sym, subst, ℕ, ℤ, pos, ◌+◌, ◌*◌, ◌<◌, ◌≤◌, List, [], ◌∷◌, length, take, drop, get_or, arith}
use Rattle.std.specs.Prelude.{sum, IsNone, IsSome, Option, Some, None}
use Rattle.std.proofs.lemmas.List.{drop_more, length-drop, length-take-le}
use Rattle.std.proofs.lemmas.List.Sums.{sum_by-cons, sum_by-drop_more}
use Rattle.icu_char16trie.specs.UnitMap.{UnitMap, value_of}
use Rattle.icu_char16trie_builder.specs.Entries.{most_units, with_entry}
use Rattle.icu_char16trie_builder.proofs.CallerLemmas.{most_units-with_entry}
use Rattle.icu_collections_c.specs.UnitBuilding.{AreAllNew, HasEntries, entries_of, map_of, with_entries}

pub sum_drop_more : (ns : List ℕ) (i : ℕ) → i < length ns → sum (drop i ns) ≡ get_or ns i 0 + sum (drop (i + 1) ns)
sum_drop_more ns i l = sum_by-drop_more (λ n. n) ns i 0 l

-- The next entry of those that are left.
pub entries_next : (rest ns : List ℕ) (vs : List ℤ) (i : ℕ) → i < length ns → length ns ≡ length vs
    → entries_of rest (drop i ns) (drop i vs)
    ≡ (take (get_or ns i 0) rest, get_or vs i (pos 0)) ∷ entries_of (drop (get_or ns i 0) rest) (drop (i + 1) ns) (drop (i + 1) vs)
entries_next rest ns vs i l same = rw (drop_more ns i 0 l, drop_more vs i (pos 0) (omega (arith, l, same))) refl

-- Adding the entries that are left to the map so far makes the same map as adding all of them to
-- the first map.
pub record Along (all : List (List ℕ × ℤ)) (first : UnitMap) (left : List (List ℕ × ℤ)) (m : UnitMap) : Type 0 where
  pub map : with_entries left m ≡ with_entries all first
  pub new : AreAllNew left m → AreAllNew all first
  pub still : AreAllNew all first → AreAllNew left m

absent_and_there : (o : Option ℤ) → IsNone o → IsSome o → ⊥
absent_and_there None h k = absurd (cc)
absent_and_there (Some v) h k = absurd (cc)

module _ (all : List (List ℕ × ℤ)) (first : UnitMap) (key : List ℕ) (v : ℤ) (left rest : List (List ℕ × ℤ)) (m : UnitMap)
    (along : Along all first left m) (is : left ≡ (key, v) ∷ rest) where
  here : Along all first ((key, v) ∷ rest) m
  here = subst (λ es. Along all first es m) is along

  pub Along-next : (after : UnitMap) → IsNone (value_of m key) → after ≡ with_entry key v m → Along all first rest after
  Along-next after fresh e =
      subst (λ z. Along all first rest z) (sym e) (record {
        map = here.map;
        new = λ h. here.new (fresh, h);
        still = λ h. (here.still h).1;
      })

-- ---- how many units a trie of them takes at most
absent : (o : Option ℤ) → IsNone o → o ≡ None
absent None h = refl
absent (Some v) h = absurd (cc)

most_none : most_units [] ≡ 0
unfolding most_units
most_none = refl

most_units-entries : (keys ns : List ℕ) (vs : List ℤ) (m : UnitMap) → length ns ≡ length vs → sum ns ≤ length keys
    → AreAllNew (entries_of keys ns vs) m
    → most_units (with_entries (entries_of keys ns vs) m) ≡ 2 * sum ns + 16 * length ns + most_units m
most_units-entries keys [] vs m same there new = omega arith
most_units-entries keys (n ∷ ns) [] m same there new = absurd (omega (arith, same))
most_units-entries keys (n ∷ ns) (v ∷ vs) m same there new =
    let more : sum (n ∷ ns) ≡ n + sum ns = sum_by-cons (λ k. k) n ns in
    let left = most_units-entries (drop n keys) ns vs (with_entry (take n keys) v m) (omega (arith, same))
    (omega (arith, there, more, length-drop n keys)) new.1 in
    let one = most_units-with_entry (take n keys) v m (absent (value_of m (take n keys)) new.0) in
    let whole : length (take n keys) ≡ n = length-take-le n keys (omega (arith, there, more)) in
    omega (arith, left, one, whole, more)

-- Two units for each unit of a key, and sixteen for each entry.
pub most_units-map_of : (keys lengths : List ℕ) (values : List ℤ) → HasEntries keys lengths values
    → AreAllNew (entries_of keys lengths values) []
    → most_units (map_of (entries_of keys lengths values)) ≡ 2 * sum lengths + 16 * length lengths
most_units-map_of keys lengths values given new =
    omega (arith, most_units-entries keys lengths values [] given.0 given.1 new, most_none)
