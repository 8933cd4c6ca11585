-- An added entry is in unit order among the others.
use Rattle.std.proofs.Common.{Vec, ◌≡◌, ℕ, ℤ, zero, suc, take, drop, get_or, add-one, ◌+◌, ◌*◌, ◌<◌, ◌≤◌, Bool, true, false, cond, nat_lt, nat_eq, List, [], ◌∷◌, ◌++◌, Option, Some, Result, Ok, Err, refl, sym, ap, subst, ◌∙◌, arith, length, inl, inr, ltb-true, eqb-true, eq-eqb, ⊎_elim}
use Rattle.std.proofs.lemmas.Bool.{ne_eqb, cases_lt, ltb-false}
use Rattle.std.specs.Option.{is_some}
use Rattle.std.specs.Prelude.{OnOk, OnErr, IsTrue}
use Rattle.std.specs.Cmp.Lexicographic.{slice_cmp}
use Rattle.std.specs.declared.cmp.Ordering.{Ordering}
use Rattle.std.specs.declared.cmp.Ordering.TheVariants.{Less, Equal, Greater}
use Rattle.std.specs.Ordering.{nat_cmp, match_ordering, ordering_then, is_eq}
use Rattle.std.specs.Global.{Global}
use Rattle.std.specs.Map.{lookup}
use Rattle.std.specs.BTreeMap.{insert_entry, is_at}
use Rattle.icu_char16trie.specs.UnitMap.{UnitMap, value_of, same_key, KeyBelow, KeyBelowAll, IsAscendingKeys}
use Rattle.icu_char16trie_builder.specs.Inside.Cuts.{cut, room}
use Rattle.icu_char16trie_builder.specs.declared.entry.Entry.{Entry}
use Rattle.icu_char16trie_builder.proofs.CutLemmas.{room_append}
use Rattle.std.proofs.lemmas.List.{take-append-drop}
use Rattle.icu_char16trie_builder.specs.Entries.{with_entry, entry_map, most_units}

-- ---- the order of keys

pub record IsCompared (a b : List ℕ) (o : Ordering) : Type 0 where
  pub less : o ≡ Less → KeyBelow a b
  pub greater : o ≡ Greater → KeyBelow b a
  pub equal : o ≡ Equal → a ≡ b
  pub test : is_eq o ≡ same_key b a

lt_eq : (x y : ℕ) → nat_lt x y ≡ true → nat_eq y x ≡ false
lt_eq x y h = let l : x < y = ltb-true x y h in ne_eqb y x (λ e. absurd (omega (arith, l, e)))

compared_by : (x y : ℕ) (a b : List ℕ) (o : Ordering) (p q : Bool) → p ≡ nat_lt x y → q ≡ nat_eq x y → IsCompared a b o
    → IsCompared (x ∷ a) (y ∷ b) (ordering_then (cond p Less (cond q Equal Greater)) o)
unfolding same_key
compared_by x y a b o true q e f h = record {
  less = λ _. inl (ltb-true x y (sym e));
  greater = λ k. cc;
  equal = λ k. cc;
  test = rw (lt_eq x y (sym e)) refl;
}
compared_by x y a b o false true e f h =
    let same : x ≡ y = eqb-true x y (sym f) in
    let yes : nat_eq y x ≡ true = rw same (eq-eqb y y refl) in
    record {
      less = λ k. inr (same, h.less k);
      greater = λ k. inr (sym same, h.greater k);
      equal = λ k. ap (λ z. x ∷ z) (h.equal k) ∙ ap (λ z. z ∷ b) same;
      test = rw yes h.test;
    }
compared_by x y a b o false false e f h =
    let ge : y ≤ x = ltb-false x y (sym e) in
    let ne : x ≡ y → ⊥ = λ k. let yes : nat_eq x y ≡ true = eq-eqb x y k in cc in
    record {
      less = λ k. cc;
      greater = λ _. inl (⊎_elim (λ l. l) (λ l. absurd (ne (omega (arith, l, ge)))) (cases_lt y x));
      equal = λ k. cc;
      test = rw (ne_eqb y x (λ k. ne (sym k))) refl;
    }

pub compared : (a b : List ℕ) → IsCompared a b (slice_cmp nat_cmp a b)
unfolding same_key
compared [] [] = record { less = λ k. cc; greater = λ k. cc; equal = λ k. refl; test = refl }
compared [] (y ∷ b) = record { less = λ k. tt; greater = λ k. cc; equal = λ k. cc; test = refl }
compared (x ∷ a) [] = record { less = λ k. cc; greater = λ k. tt; equal = λ k. cc; test = refl }
compared (x ∷ a) (y ∷ b) = compared_by x y a b (slice_cmp nat_cmp a b) (nat_lt x y) (nat_eq x y) refl refl (compared a b)

-- ---- the entries in order

pub key_trans : (a b c : List ℕ) → KeyBelow a b → KeyBelow b c → KeyBelow a c
key_trans a b [] h k = k
key_trans a [] (z ∷ c) h k = absurd h
key_trans [] (y ∷ b) (z ∷ c) h k = tt
key_trans (x ∷ a) (y ∷ b) (z ∷ c) (inl h) (inl k) = inl (omega (arith, h, k))
key_trans (x ∷ a) (y ∷ b) (z ∷ c) (inl h) (inr k) = inl (omega (arith, h, k.0))
key_trans (x ∷ a) (y ∷ b) (z ∷ c) (inr h) (inl k) = inl (omega (arith, h.0, k))
key_trans (x ∷ a) (y ∷ b) (z ∷ c) (inr h) (inr k) = inr (h.0 ∙ k.0, key_trans a b c h.1 k.1)

below_trans : (a b : List ℕ) (m : UnitMap) → KeyBelow a b → KeyBelowAll b m → KeyBelowAll a m
below_trans a b [] h k = tt
below_trans a b (e ∷ m) h k = (key_trans a b e.0 h k.0, below_trans a b m h k.1)

below_with_by : (a key : List ℕ) (v : ℤ) (e : List ℕ × ℤ) (m rest : UnitMap) (o : Ordering) → KeyBelow a key → KeyBelow a e.0
    → KeyBelowAll a m → KeyBelowAll a rest
    → KeyBelowAll a (match_ordering o ((key, v) ∷ e ∷ m) ((key, v) ∷ m) (e ∷ rest))
below_with_by a key v e m rest Less h i k l = (h, (i, k))
below_with_by a key v e m rest Equal h i k l = (h, k)
below_with_by a key v e m rest Greater h i k l = (i, l)

below_with : (a key : List ℕ) (v : ℤ) (m : UnitMap) → KeyBelow a key → KeyBelowAll a m → KeyBelowAll a (with_entry key v m)
unfolding with_entry
below_with a key v [] h k = (h, tt)
below_with a key v (e ∷ m) h k = below_with_by a key v e m (with_entry key v m)
    (slice_cmp nat_cmp key e.0) h k.0 k.1 (below_with a key v m h k.1)

ascends_with_by : (key : List ℕ) (v : ℤ) (e : List ℕ × ℤ) (m rest : UnitMap) (o : Ordering) → IsCompared key e.0 o → IsAscendingKeys (e ∷ m)
    → IsAscendingKeys rest
    → (KeyBelow e.0 key → KeyBelowAll e.0 rest) → IsAscendingKeys (match_ordering o ((key, v) ∷ e ∷ m) ((key, v) ∷ m) (e ∷ rest))
ascends_with_by key v e m rest Less h up r f = ((h.less refl, below_trans key e.0 m (h.less refl) up.0), up)
ascends_with_by key v e m rest Equal h up r f = (subst (λ z. KeyBelowAll z m) (sym (h.equal refl)) up.0, up.1)
ascends_with_by key v e m rest Greater h up r f = (f (h.greater refl), r)

pub IsAscendingKeys-with_entry : (key : List ℕ) (v : ℤ) (m : UnitMap) → IsAscendingKeys m → IsAscendingKeys (with_entry key v m)
unfolding with_entry
IsAscendingKeys-with_entry key v [] h = (tt, tt)
IsAscendingKeys-with_entry key v (e ∷ m) h =
    ascends_with_by key v e m (with_entry key v m) (slice_cmp nat_cmp key e.0) (compared key e.0) h (IsAscendingKeys-with_entry key v m h.1)
    (λ k. below_with e.0 key v m k h.0)

-- ---- as a map stores them

abbrev pub key_cmp : Vec ℕ Global → Vec ℕ Global → Ordering
key_cmp a b = slice_cmp nat_cmp a.items b.items

inserted_by : (key : List ℕ) (v : ℤ) (k : Vec ℕ Global) (e : Vec ℕ Global × ℤ) (es rest : List (Vec ℕ Global × ℤ)) (more : UnitMap)
    (o : Ordering) → k.items ≡ key → IsCompared key e.0.items o → entry_map rest ≡ more
    → entry_map (match_ordering o ((k, v) ∷ e ∷ es) ((e.0, v) ∷ es) (e ∷ rest))
    ≡ match_ordering o ((key, v) ∷ (e.0.items, e.1) ∷ entry_map es) ((key, v) ∷ entry_map es) ((e.0.items, e.1) ∷ more)
inserted_by key v k e es rest more Less s h r = ap (λ z. (z, v) ∷ (e.0.items, e.1) ∷ entry_map es) s
inserted_by key v k e es rest more Equal s h r = ap (λ z. (z, v) ∷ entry_map es) (sym (h.equal refl))
inserted_by key v k e es rest more Greater s h r = ap (λ z. (e.0.items, e.1) ∷ z) r

pub inserted : (key : List ℕ) (v : ℤ) (k : Vec ℕ Global) (es : List (Vec ℕ Global × ℤ)) → k.items ≡ key
    → entry_map (insert_entry key_cmp es k v) ≡ with_entry key v (entry_map es)
unfolding with_entry
inserted key v k [] s = ap (λ z. (z, v) ∷ []) s
inserted key v k (e ∷ es) s =
    let one : slice_cmp nat_cmp k.items e.0.items ≡ slice_cmp nat_cmp key e.0.items = ap (λ z. slice_cmp nat_cmp z e.0.items) s in
    ap (λ o. entry_map (match_ordering o ((k, v) ∷ e ∷ es) ((e.0, v) ∷ es) (e ∷ insert_entry key_cmp es k v))) one
    ∙ inserted_by key v k e es (insert_entry key_cmp es k v) (with_entry key v (entry_map es))
    (slice_cmp nat_cmp key e.0.items) s (compared key e.0.items) (inserted key v k es s)

found_by : (b : Bool) (x : ℤ) (p q : Option ℤ) → is_some p ≡ is_some q → is_some (cond b (Some x) p) ≡ is_some (cond b (Some x) q)
found_by true x p q h = refl
found_by false x p q h = h

pub found : (key : List ℕ) (es : List (Vec ℕ Global × ℤ))
    → is_some (lookup (is_at (λ k. slice_cmp nat_cmp key k.items)) es) ≡ is_some (value_of (entry_map es) key)
unfolding value_of
found key [] = refl
found key (e ∷ es) =
    found_by (is_eq (slice_cmp nat_cmp key e.0.items)) e.1 (lookup (is_at (λ k. slice_cmp nat_cmp key k.items)) es)
    (value_of (entry_map es) key) (found key es)
    ∙ ap (λ z. is_some (cond z (Some e.1) (value_of (entry_map es) key))) (compared key e.0.items).test

-- ---- the list of the entries

pub map_of_cut : (es : List Entry) (d : ℕ) → d ≡ 0 → room d es ≡ most_units (cut d es)
unfolding most_units
map_of_cut [] d z = refl
map_of_cut (e ∷ es) d z =
    let here : drop d e.key.now ≡ e.key.now = ap (λ n. drop n e.key.now) z in
    omega (arith, map_of_cut es d z, z, ap length here)

pub cut_pushed : (list : List Entry) (e : Entry) (x : List ℕ × ℤ) (rest all : UnitMap) → cut 0 list ++ x ∷ rest ≡ all
    → (e.key.now, e.value) ≡ x → cut 0 (list ++ e ∷ []) ++ rest ≡ all
cut_pushed [] e x rest all h s = ap (λ z. z ∷ rest) s ∙ h
cut_pushed (y ∷ list) e x rest [] h s = absurd (cons_nil h)
  where
    cons_nil : {a : List ℕ × ℤ} {m : UnitMap} → ◌≡◌ {A = UnitMap} (a ∷ m) [] → ⊥
    cons_nil h = cc
cut_pushed (y ∷ list) e x rest (a ∷ all) h s = ap (λ z. z ∷ (cut 0 (list ++ e ∷ []) ++ rest)) (heads h)
    ∙ ap (λ z. a ∷ z) (cut_pushed list e x rest all (tails h) s)
  where
    heads : {a b : List ℕ × ℤ} {m n : UnitMap} → ◌≡◌ {A = UnitMap} (a ∷ m) (b ∷ n) → a ≡ b
    heads h = cc

    tails : {a b : List ℕ × ℤ} {m n : UnitMap} → ◌≡◌ {A = UnitMap} (a ∷ m) (b ∷ n) → m ≡ n
    tails h = cc

-- A step of the loop that adds up the bound of the entries.
pub room_more : (i : ℕ) (es rest : List Entry) → rest ≡ drop i es → room 0 (take (i + 1) es) ≡ room 0 (take i es) + room 0 (take 1 rest)
room_more i es rest e = rw add-one (ap (room 0) (front i es) ∙ room_append 0 (take i es) (take 1 (drop i es))
    ∙ ap (λ z. room 0 (take i es) + room 0 (take 1 z)) (sym e))
  where
    front : (i : ℕ) (es : List Entry) → take (suc i) es ≡ take i es ++ take 1 (drop i es)
    front zero es = refl
    front (suc i) [] = refl
    front (suc i) (x ∷ es) = ap (λ z. x ∷ z) (front i es)

pub room_least : (i : ℕ) (es : List Entry) → room 0 (take i es) ≤ room 0 es
room_least i es = omega (arith, room_append 0 (take i es) (drop i es), ap (room 0) (take-append-drop i es))

pub first_room : (es : List Entry) (other : Entry) → 0 < length es → room 0 (take 1 es) ≡ 2 * length (get_or es 0 other).key.now + 16
first_room [] other h = absurd (omega arith)
first_room (e ∷ es) other h = omega arith

-- An entry was added or rejected.
pub ascends_added : {A E : Type 0} (r : Result A E) (key : List ℕ) (v : ℤ) (new old : UnitMap) → OnOk r (new ≡ with_entry key v old)
    → OnErr r (new ≡ old) → IsAscendingKeys old → IsAscendingKeys new
ascends_added (Ok x) key v new old h k up = subst (λ z. IsAscendingKeys z) (sym h) (IsAscendingKeys-with_entry key v old up)
ascends_added (Err e) key v new old h k up = subst (λ z. IsAscendingKeys z) (sym k) up

pub too_much : (n most : ℕ) → most < n → (IsTrue false → n ≤ most) × (n ≤ most → IsTrue false)
too_much n most h = (λ k. cc, λ k. absurd (omega arith))

-- The bound of the entries of a builder.
pub room_self : (es list : List Entry) (m view : UnitMap) → es ≡ list → cut 0 list ≡ m → view ≡ m → room 0 es ≡ most_units view
room_self es list m view e f g = ap (room 0) e ∙ map_of_cut list 0 refl ∙ ap most_units (f ∙ sym g)

pub most_none : most_units [] ≡ 0
unfolding most_units
most_none = refl

pub more_than : (b : Bool) (n most : ℕ) → (IsTrue b → n ≤ most) × (n ≤ most → IsTrue b) → b ≡ false → most < n
more_than b n most h f =
    elim (cases_lt most n) [
      | inl lt ↦ lt
      | inr le ↦ absurd (both b (h.1 le) f)
    ]
  where
    both : (b : Bool) → IsTrue b → b ≡ false → ⊥
    both b t f = cc

-- ---- the number of entries

pub length-entry_map : (es : List (Vec ℕ Global × ℤ)) → length (entry_map es) ≡ length es
length-entry_map [] = refl
length-entry_map (e ∷ es) = ap suc (length-entry_map es)
