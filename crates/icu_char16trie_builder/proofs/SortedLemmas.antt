-- Entries that are already in unit order: one after another, and the errors that they can have.
use Rattle.std.proofs.Common.{◌≡◌, ℕ, ℤ, pos, zero, suc, add-one, ◌+◌, ◌-◌, ◌*◌, ◌<◌, ◌≤◌, Bool, false, List, [], ◌∷◌, ◌++◌, Some, Result, Ok, Err, length, take, get_or, refl, sym, ap, subst, ◌∙◌, arith, inl, inr}
use Rattle.std.specs.Prelude.{IsTrue, IsErrAnd, ◌↔◌}
use Rattle.std.specs.Borrow.{Bor}
use Rattle.std.specs.Cmp.Lexicographic.{slice_cmp, slice_partial_cmp}
use Rattle.std.specs.declared.cmp.Ordering.{Ordering}
use Rattle.std.specs.declared.cmp.Ordering.TheVariants.{Less, Equal, Greater}
use Rattle.std.specs.Ordering.{MatchOrdering, nat_cmp, ordering_then, is_lt, is_some_and}
use Rattle.std.proofs.lemmas.Cmp.{same_from_slice_cmp_tested}
use Rattle.std.proofs.lemmas.Bool.{cases_lt}
use Rattle.std.proofs.lemmas.List.{get_or-map, get_or-take, take-take, length-take-le, map_more}
use Rattle.std.proofs.lemmas.List.Elements.{All-take, All-more, All-get_or}
use Rattle.icu_char16trie.specs.UnitMap.{UnitMap, KeyBelow, KeyBelowAll, IsAscendingKeys}
use Rattle.icu_char16trie_builder.specs.Entries.{most_units}
use Rattle.icu_char16trie_builder.specs.Sorted.{pair_map, key_at, IsInOrder, IsFirstRefusedKey}
use Rattle.icu_char16trie_builder.specs.Inside.Cuts.{cut, room}
use Rattle.icu_char16trie_builder.specs.Inside.Refusals.{IsRefusal, CanBeWritten}
use Rattle.icu_char16trie_builder.specs.declared.entry.Entry.{Entry}
use Rattle.icu_char16trie_builder.specs.declared.error.SortedError.{SortedError}
use Rattle.icu_char16trie_builder.specs.declared.error.SortedError.TheVariants.{KeyTooLong, NotAscending, TooLarge, Memory}
use Rattle.icu_char16trie.proofs.CallerLemmas.{below_itself}
use Rattle.icu_char16trie_builder.proofs.EntryLemmas.{IsCompared, compared, key_trans, map_of_cut, cut_pushed}

abbrev pub Pair : Type 0
Pair = Bor (List ℕ) × ℤ

abbrev pub blank : Pair
blank = (record { ref_ptr = (0, 0); now = [] }, pos 0)

-- ---- the entries of a slice

pub length-pair_map : (es : List Pair) → length (pair_map es) ≡ length es
length-pair_map [] = refl
length-pair_map (e ∷ es) = ap suc (length-pair_map es)

pub key_at-pair_map : (es : List Pair) (i : ℕ) (d : Pair) → i < length es → key_at (pair_map es) i ≡ (get_or es i d).0.now
key_at-pair_map es i d h = ap (λ (e : List ℕ × ℤ). e.0) (get_or-map (λ (e : Pair). (e.0.now, e.1)) es i d ([], pos 0) h)

append_none : (m : UnitMap) → m ++ [] ≡ m
append_none [] = refl
append_none (e ∷ m) = ap (λ z. e ∷ z) (append_none m)

-- The next entry in a list of entries.
pub cut_more : (list : List Entry) (e : Entry) (es : List Pair) (i : ℕ) (d : Pair) → i < length es → cut 0 list ≡ pair_map (take i es)
    → ◌≡◌ {A = List ℕ × ℤ} (e.key.now, e.value) ((get_or es i d).0.now, (get_or es i d).1)
    → cut 0 (list ++ e ∷ []) ≡ pair_map (take (i + 1) es)
cut_more list e es i d h so_far same =
    let x : List ℕ × ℤ = ((get_or es i d).0.now, (get_or es i d).1) in
    sym (append_none (cut 0 (list ++ e ∷ [])))
    ∙ cut_pushed list e x [] (pair_map (take (i + 1) es))
    (ap (λ z. z ++ x ∷ []) so_far ∙ sym (map_more (λ (e : Pair). (e.0.now, e.1)) es i d h)) same

-- ---- two keys

test_by : (x y : ℕ) (xs ys : List ℕ) (o : Ordering) → o ≡ nat_cmp x y
    → MatchOrdering o (is_lt (slice_cmp nat_cmp (x ∷ xs) (y ∷ ys)) ≡ is_lt Less)
    (is_lt (slice_cmp nat_cmp (x ∷ xs) (y ∷ ys)) ≡ is_lt (slice_cmp nat_cmp xs ys))
    (is_lt (slice_cmp nat_cmp (x ∷ xs) (y ∷ ys)) ≡ is_lt Greater)
test_by x y xs ys Less h = ap (λ z. is_lt (ordering_then z (slice_cmp nat_cmp xs ys))) (sym h)
test_by x y xs ys Equal h = ap (λ z. is_lt (ordering_then z (slice_cmp nat_cmp xs ys))) (sym h)
test_by x y xs ys Greater h = ap (λ z. is_lt (ordering_then z (slice_cmp nat_cmp xs ys))) (sym h)

below_by : (a b : List ℕ) (o : Ordering) → IsCompared a b o → IsTrue (is_lt o) ↔ KeyBelow a b
below_by a b Less h = (λ t. h.less refl, λ k. refl)
below_by a b Equal h = (λ t. cc, λ k. absurd (below_itself b (subst (λ z. KeyBelow z b) (h.equal refl) k)))
below_by a b Greater h = (λ t. cc, λ k. absurd (below_itself a (key_trans a b a k (h.greater refl))))

-- The comparison of two slices is that of two keys.
pub is_below : (a b : List ℕ) (r : Bool) → r ≡ is_some_and is_lt (slice_partial_cmp (λ x y. Some (nat_cmp x y)) a b)
    → IsTrue r ↔ KeyBelow a b
is_below a b r h =
    let same : r ≡ is_lt (slice_cmp nat_cmp a b) =
    same_from_slice_cmp_tested nat_cmp is_lt (λ xs ys. is_lt (slice_cmp nat_cmp xs ys)) refl (λ _ _. refl) (λ _ _. refl) test_by a b r h in
    subst (λ z. IsTrue z ↔ KeyBelow a b) (sym same) (below_by a b (slice_cmp nat_cmp a b) (compared a b))

-- ---- one more entry in order

abbrev Short : List ℕ × ℤ → Type 0
Short e = length e.0 ≤ 65535

below_front : (n : ℕ) (key : List ℕ) (m : UnitMap) → KeyBelowAll key m → KeyBelowAll key (take n m)
below_front zero key m h = tt
below_front (suc n) key [] h = tt
below_front (suc n) key (e ∷ m) h = (h.0, below_front n key m h.1)

ascends_front : (n : ℕ) (m : UnitMap) → IsAscendingKeys m → IsAscendingKeys (take n m)
ascends_front zero m h = tt
ascends_front (suc n) [] h = tt
ascends_front (suc n) (e ∷ m) h = (below_front n e.0 m h.0, ascends_front n m h.1)

-- A prefix of entries in order is in order.
front_in_order : (n : ℕ) (m : UnitMap) → IsInOrder m → IsInOrder (take n m)
front_in_order n m h = (All-take Short n m h.0, ascends_front n m h.1)

shorter_in_order : (m : UnitMap) (k n : ℕ) → k ≤ n → IsInOrder (take n m) → IsInOrder (take k m)
shorter_in_order m k n h up = subst (λ z. IsInOrder z) (take-take k n m h) (front_in_order k (take n m) up)

below_next : (i : ℕ) (key : List ℕ) (m : UnitMap) → suc i < length m → KeyBelowAll key (take (suc i) m)
    → KeyBelow (key_at m i) (key_at m (suc i)) → KeyBelowAll key (take (suc (suc i)) m)
below_next i key [] h b k = absurd (omega (arith, h))
below_next zero key (e ∷ []) h b k = absurd (omega (arith, h))
below_next zero key (e ∷ f ∷ m) h b k = (b.0, (key_trans key e.0 f.0 b.0 k, tt))
below_next (suc i) key (e ∷ m) h b k = (b.0, below_next i key m (omega (arith, h)) b.1 k)

ascends_next : (i : ℕ) (m : UnitMap) → suc i < length m → IsAscendingKeys (take (suc i) m) → KeyBelow (key_at m i) (key_at m (suc i))
    → IsAscendingKeys (take (suc (suc i)) m)
ascends_next i [] h up k = absurd (omega (arith, h))
ascends_next zero (e ∷ []) h up k = absurd (omega (arith, h))
ascends_next zero (e ∷ f ∷ m) h up k = ((k, tt), (tt, tt))
ascends_next (suc i) (e ∷ m) h up k = (below_next i e.0 m (omega (arith, h)) up.0 k, ascends_next i m (omega (arith, h)) up.1 k)

below_at : (i : ℕ) (m : UnitMap) → suc i < length m → IsAscendingKeys (take (suc (suc i)) m) → KeyBelow (key_at m i) (key_at m (suc i))
below_at i [] h up = absurd (omega (arith, h))
below_at zero (e ∷ []) h up = absurd (omega (arith, h))
below_at zero (e ∷ f ∷ m) h up = up.0.0
below_at (suc i) (e ∷ m) h up = below_at i m (omega (arith, h)) up.1

-- The key of the last of some entries in order is not too long.
pub short_at : (m : UnitMap) (i : ℕ) → i < length m → IsInOrder (take (i + 1) m) → length (key_at m i) ≤ 65535
short_at m i h up =
    let len : length (take (i + 1) m) ≡ i + 1 = length-take-le (i + 1) m (omega (arith, h)) in
    let last = All-get_or Short (take (i + 1) m) i ([], pos 0) (omega (arith, len)) up.0 in
    subst Short (get_or-take (i + 1) m i ([], pos 0) (omega arith)) last

next_follows : (m : UnitMap) (i : ℕ) → 0 < i → i < length m → IsInOrder (take i m) → length (key_at m i) ≤ 65535
    → KeyBelow (key_at m (i - 1)) (key_at m i) → IsInOrder (take (i + 1) m)
next_follows m zero some h front short k = absurd (omega (arith, some))
next_follows m (suc i) some h front short k =
    let before : suc i - 1 ≡ i = omega arith in (
      All-more Short m (suc i) ([], pos 0) h front.0 short,
      rw add-one (ascends_next i m h front.1 (subst (λ j. KeyBelow (key_at m j) (key_at m (suc i))) before k)),
    )

below_before : (m : UnitMap) (i : ℕ) → 0 < i → i < length m → IsAscendingKeys (take (i + 1) m) → KeyBelow (key_at m (i - 1)) (key_at m i)
below_before m zero some h up = absurd (omega (arith, some))
below_before m (suc i) some h up =
    let before : i ≡ suc i - 1 = omega arith in
    let n : suc i + 1 ≡ suc (suc i) = omega arith in
    subst (λ j. KeyBelow (key_at m j) (key_at m (suc i))) before (below_at i m h (subst (λ j. IsAscendingKeys (take j m)) n up))

-- Another entry is valid exactly if its key is greater than the one before.
pub follows_by : (b : Bool) (m : UnitMap) (i : ℕ) (x y : List ℕ) → 0 < i → i < length m → key_at m (i - 1) ≡ x → key_at m i ≡ y
    → IsInOrder (take i m) → length y ≤ 65535
    → IsTrue b ↔ KeyBelow x y → IsTrue b ↔ IsInOrder (take (i + 1) m)
follows_by b m i x y some h ex ey front short test = (
  λ t.
      let below : KeyBelow (key_at m (i - 1)) y = subst (λ z. KeyBelow z y) (sym ex) (test.0 t) in
      next_follows m i some h front (omega (arith, ap length ey, short)) (subst (λ z. KeyBelow (key_at m (i - 1)) z) (sym ey) below),
  λ up. test.1 (subst (λ z. KeyBelow z y) ex (subst (λ z. KeyBelow (key_at m (i - 1)) z) ey (below_before m i some h up.1))),
)

pub is_no : {P : Type 0} → (P → ⊥) → IsTrue false ↔ P
is_no never = (λ t. cc, λ p. absurd (never p))

-- ---- the bound of entries

most_next : (i : ℕ) (es : List Pair) (d : Pair) → i < length es
    → most_units (pair_map (take (suc i) es)) ≡ most_units (pair_map (take i es)) + 2 * length (get_or es i d).0.now + 16
unfolding most_units
most_next i [] d h = absurd (omega (arith, h))
most_next zero (e ∷ es) d h = omega arith
most_next (suc i) (e ∷ es) d h = omega (arith, most_next i es d (omega (arith, h)))

pub most_more : (i : ℕ) (es : List Pair) (d : Pair) → i < length es
    → most_units (pair_map (take (i + 1) es)) ≡ most_units (pair_map (take i es)) + 2 * length (get_or es i d).0.now + 16
most_more i es d h = rw add-one (most_next i es d h)

pub most_least : (i : ℕ) (es : List Pair) → most_units (pair_map (take i es)) ≤ most_units (pair_map es)
unfolding most_units
most_least zero es = omega arith
most_least (suc i) [] = omega arith
most_least (suc i) (e ∷ es) = omega (arith, most_least i es)

-- The bound of a list of the entries.
pub room_of_pairs : (list : List Entry) (m : UnitMap) → cut 0 list ≡ m → room 0 list ≡ most_units m
room_of_pairs list m e = map_of_cut list 0 refl ∙ ap most_units e

-- ---- at most one error applies

one_place : (m : UnitMap) (i j : ℕ) → IsFirstRefusedKey m i → IsFirstRefusedKey m j → i ≡ j
one_place m i j h k =
    elim (cases_lt i j) [
      | inl before ↦ absurd (h.2 (shorter_in_order m (i + 1) j (omega (arith, before)) k.1))
      | inr from ↦ elim (cases_lt j i) [
        | inl behind ↦ absurd (k.2 (shorter_in_order m (j + 1) i (omega (arith, behind)) h.1))
        | inr to ↦ omega (arith, from, to)
      ]
    ]

in_order_all : (m : UnitMap) (i : ℕ) → IsInOrder m → IsFirstRefusedKey m i → ⊥
in_order_all m i up h = h.2 (front_in_order (i + 1) m up)

long_and_short : (m : UnitMap) (i j : ℕ) → IsFirstRefusedKey m i → IsFirstRefusedKey m j → 65535 < length (key_at m i)
    → length (key_at m j) ≤ 65535 → ⊥
long_and_short m i j h k long short = absurd (omega (arith, long, short, ap (λ z. length (key_at m z)) (one_place m i j h k)))

one_refusal : (m : UnitMap) (e f : SortedError) → IsRefusal m e → IsRefusal m f → e ≡ f
one_refusal m (KeyTooLong i) (KeyTooLong j) h k = ap KeyTooLong (one_place m i j h.0 k.0)
one_refusal m (KeyTooLong i) (NotAscending j) h k = absurd (long_and_short m i j h.0 k.0 h.1 k.1)
one_refusal m (KeyTooLong i) TooLarge h k = absurd (in_order_all m i k.0 h.0)
one_refusal m (KeyTooLong i) Memory h k = absurd k
one_refusal m (NotAscending i) (KeyTooLong j) h k = absurd (long_and_short m j i k.0 h.0 k.1 h.1)
one_refusal m (NotAscending i) (NotAscending j) h k = ap NotAscending (one_place m i j h.0 k.0)
one_refusal m (NotAscending i) TooLarge h k = absurd (in_order_all m i k.0 h.0)
one_refusal m (NotAscending i) Memory h k = absurd k
one_refusal m TooLarge (KeyTooLong j) h k = absurd (in_order_all m j h.0 k.0)
one_refusal m TooLarge (NotAscending j) h k = absurd (in_order_all m j h.0 k.0)
one_refusal m TooLarge TooLarge h k = refl
one_refusal m TooLarge Memory h k = absurd k
one_refusal m Memory f h k = absurd h

none_refused : (m : UnitMap) (e : SortedError) → CanBeWritten m → IsRefusal m e → ⊥
none_refused m (KeyTooLong i) w h = in_order_all m i w.0 h.0
none_refused m (NotAscending i) w h = in_order_all m i w.0 h.0
none_refused m TooLarge w h = absurd (omega (arith, w.1, h.1))
none_refused m Memory w h = h

err_same : {A : Type 0} {e f : SortedError} → ◌≡◌ {A = Result A SortedError} (Err e) (Err f) → e ≡ f
err_same h = cc

-- An error is returned, and no other one applies.
pub told_refusal : {A : Type 0} (m : UnitMap) (e f : SortedError) → IsRefusal m e
    → ◌≡◌ {A = Result A SortedError} (Err e) (Err f) ↔ IsRefusal m f
told_refusal m e f h = (λ s. subst (λ z. IsRefusal m z) (err_same s) h, λ k. ap Err (one_refusal m e f h k))

-- If no error applies, another result is returned.
pub told_other : {A : Type 0} (m : UnitMap) (r : Result A SortedError) (f : SortedError) → CanBeWritten m → (r ≡ Err f → ⊥)
    → (r ≡ Err f) ↔ IsRefusal m f
told_other m r f w other = (λ s. absurd (other s), λ k. absurd (none_refused m f w k))

-- If no error applies, `Memory` may be returned.
pub told_memory : {A : Type 0} (m : UnitMap) (r : Result A SortedError) (f : SortedError) → CanBeWritten m
    → IsErrAnd r (λ e. e ≡ Memory) → (Memory ≡ f → ⊥) → (r ≡ Err f) ↔ IsRefusal m f
told_memory m (Ok x) f w h other = absurd h
told_memory m (Err e) f w h other = (λ s. absurd (other (sym h ∙ err_same s)), λ k. absurd (none_refused m f w k))
