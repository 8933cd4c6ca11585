-- How the entries below a node are divided among its arms.
use Rattle.std.proofs.Common.{◌≡◌, ℕ, ℤ, zero, suc, ◌+◌, ◌*◌, ◌<◌, ◌≤◌, List, [], ◌∷◌, ◌++◌, Some, None, Option, Bool, true, false, not, nat_eq, refl, sym, ap, subst, ◌∙◌, arith, length, take, drop, slice_get, drop-cons, add-one, inl, inr}
use Rattle.std.proofs.lemmas.Bool.{cases_lt}
use Rattle.std.proofs.Common.{eqb-true}
use Rattle.std.specs.Option.{option_eq}
use Rattle.std.proofs.Math.ListN.{drop_of_length-le}
use Rattle.std.proofs.lemmas.List.{take-append-drop, length-take-le, drop-drop, take-take}
use Rattle.std.proofs.lemmas.Option.{slice_get_within, get_or_from_slice_get}
use Rattle.icu_char16trie.specs.UnitMap.{UnitMap, under, KeyBelow, KeyBelowAll, IsAscendingKeys}
use Rattle.icu_char16trie_builder.specs.Inside.Cuts.{cut, room, AllLonger, AllShare, IsGroup, BeginsFrom, AllBeginFrom, unit_of}
use Rattle.icu_char16trie_builder.specs.declared.entry.Entry.{Entry}

pub cut_append : (d : ℕ) (a b : List Entry) → cut d (a ++ b) ≡ cut d a ++ cut d b
cut_append d [] b = refl
cut_append d (e ∷ a) b = ap (λ z. (drop d e.key.now, e.value) ∷ z) (cut_append d a b)

pub room_append : (d : ℕ) (a b : List Entry) → room d (a ++ b) ≡ room d a + room d b
room_append d [] b = omega arith
room_append d (e ∷ a) b = omega (arith, room_append d a b)

pub longer_right : (d : ℕ) (a b : List Entry) → AllLonger d (a ++ b) → AllLonger d b
longer_right d [] b h = h
longer_right d (e ∷ a) b h = longer_right d a b h.1

-- ---- keys that ascend

below_left : (key : List ℕ) (a b : UnitMap) → KeyBelowAll key (a ++ b) → KeyBelowAll key a
below_left key [] b h = tt
below_left key (e ∷ a) b h = (h.0, below_left key a b h.1)

pub ascends_left : (a b : UnitMap) → IsAscendingKeys (a ++ b) → IsAscendingKeys a
ascends_left [] b h = tt
ascends_left (e ∷ a) b h = (below_left e.0 a b h.0, ascends_left a b h.1)

pub ascends_right : (a b : UnitMap) → IsAscendingKeys (a ++ b) → IsAscendingKeys b
ascends_right [] b h = h
ascends_right (e ∷ a) b h = ascends_right a b h.1

key_below_strip : (front a b : List ℕ) → KeyBelow (front ++ a) (front ++ b) → KeyBelow a b
key_below_strip [] a b h = h
key_below_strip (x ∷ front) a b (inl h) = absurd (omega (arith, h))
key_below_strip (x ∷ front) a b (inr h) = key_below_strip front a b h.1

below_strip : (front key : List ℕ) (m : UnitMap) → KeyBelowAll (front ++ key) (under front m) → KeyBelowAll key m
below_strip front key [] h = tt
below_strip front key (e ∷ m) h = (key_below_strip front key e.0 h.0, below_strip front key m h.1)

-- Keys ascend after a prefix that they share.
pub ascends_strip : (front : List ℕ) (m : UnitMap) → IsAscendingKeys (under front m) → IsAscendingKeys m
ascends_strip front [] h = tt
ascends_strip front (e ∷ m) h = (below_strip front e.0 m h.0, ascends_strip front m h.1)

-- ---- keys with more than d units

drop_all : (d : ℕ) (key : List ℕ) → length key ≤ d → drop d key ≡ []
drop_all d key h = drop_of_length-le key h

below_longer : (d : ℕ) (a key : List ℕ) → KeyBelow a (drop d key) → d < length key
below_longer d a key h =
    elim (cases_lt d (length key)) [
      | inl lt ↦ lt
      | inr le ↦ absurd (subst (λ z. KeyBelow a z) (drop_all d key le) h)
    ]

pub below_all_longer : (d : ℕ) (a : List ℕ) (es : List Entry) → KeyBelowAll a (cut d es) → AllLonger d es
below_all_longer d a [] h = tt
below_all_longer d a (e ∷ es) h = (below_longer d a e.key.now h.0, below_all_longer d a es h.1)

-- The first key ends at d.
pub cut_own : (d : ℕ) (first : Entry) (rest : List Entry) → length first.key.now ≤ d → cut d (first ∷ rest) ≡ ([], first.value) ∷ cut d rest
cut_own d first rest h = ap (λ z. (z, first.value) ∷ cut d rest) (drop_all d first.key.now h)

-- A key with more than d units has a first unit after d.
longer_one : (d : ℕ) (key : List ℕ) → d < length key → BeginsFrom 0 (drop d key)
longer_one zero [] h = absurd (omega arith)
longer_one zero (x ∷ key) h = omega arith
longer_one (suc d) [] h = absurd (omega arith)
longer_one (suc d) (x ∷ key) h = longer_one d key (omega (arith, h))

pub longer_begin : (d : ℕ) (es : List Entry) → AllLonger d es → AllBeginFrom 0 (cut d es)
longer_begin d [] h = tt
longer_begin d (e ∷ es) h = (longer_one d e.key.now h.0, longer_begin d es h.1)

-- ---- units that all keys share

drop_on : (d k : ℕ) (key : List ℕ) → drop k (drop d key) ≡ drop (d + k) key
drop_on d k key = drop-drop k d key

shared_one : (d k : ℕ) (first key : List ℕ) → k ≤ length first → take k (drop d key) ≡ take k first
    → drop d key ≡ take k first ++ drop (d + k) key
shared_one d k first key h e = sym (take-append-drop k (drop d key)) ∙ ap (λ z. z ++ drop k (drop d key)) e
    ∙ ap (λ z. take k first ++ z) (drop_on d k key)

-- Entries whose keys share units are under these units.
pub cut_shared : (d k : ℕ) (first : List ℕ) (es : List Entry) → k ≤ length first → AllShare d k first es
    → cut d es ≡ under (take k first) (cut (d + k) es)
cut_shared d k first [] h a = refl
cut_shared d k first (e ∷ es) h a =
    ap (λ z. (drop d e.key.now, e.value) ∷ z) (cut_shared d k first es h a.1)
    ∙ ap (λ z. (z, e.value) ∷ under (take k first) (cut (d + k) es)) (shared_one d k first e.key.now h a.0)

take_less : (j k : ℕ) (a b : List ℕ) → j ≤ k → take k a ≡ take k b → take j a ≡ take j b
take_less j k a b h e = sym (take-take j k a h) ∙ ap (take j) e ∙ take-take j k b h

-- ---- groups

pub drop_here : (key : List ℕ) (d u : ℕ) → slice_get key d ≡ Some u → drop d key ≡ u ∷ drop (d + 1) key
drop_here key d u g = rw (drop-cons key d 0 (slice_get_within key d u g), get_or_from_slice_get key d u 0 g, add-one) refl

-- A group is under its unit.
pub cut_group : (d u : ℕ) (es : List Entry) → IsGroup d u es → cut d es ≡ under (u ∷ []) (cut (d + 1) es)
cut_group d u [] h = refl
cut_group d u (e ∷ es) h =
    let one : (drop d e.key.now, e.value) ≡ (u ∷ drop (d + 1) e.key.now, e.value) = ap (λ z. (z, e.value)) (drop_here e.key.now d u h.0) in
    ap (λ z. (drop d e.key.now, e.value) ∷ z) (cut_group d u es h.1) ∙ ap (λ z. z ∷ under (u ∷ []) (cut (d + 1) es)) one

-- The bound of a group is two units for each entry more than the bound below its unit.
pub room_group : (d u : ℕ) (es : List Entry) → IsGroup d u es → room d es ≡ room (d + 1) es + 2 * length es
room_group d u [] h = omega arith
room_group d u (e ∷ es) h = omega (arith, room_group d u es h.1, slice_get_within e.key.now d u h.0)

-- ---- the first units of keys

begin_more : (s t : ℕ) (key : List ℕ) → s ≤ t → BeginsFrom t key → BeginsFrom s key
begin_more s t [] h b = b
begin_more s t (x ∷ key) h b = omega arith

pub all_begin_more : (s t : ℕ) (m : UnitMap) → s ≤ t → AllBeginFrom t m → AllBeginFrom s m
all_begin_more s t [] h b = tt
all_begin_more s t (e ∷ m) h b = (begin_more s t e.0 h b.0, all_begin_more s t m h b.1)

pub begin_right : (s : ℕ) (a b : UnitMap) → AllBeginFrom s (a ++ b) → AllBeginFrom s b
begin_right s [] b h = h
begin_right s (e ∷ a) b h = begin_right s a b h.1

begins_above : (x : ℕ) (a key : List ℕ) → KeyBelow (x ∷ a) key → BeginsFrom x key
begins_above x a [] h = h
begins_above x a (y ∷ key) (inl h) = omega arith
begins_above x a (y ∷ key) (inr h) = omega (arith, h.0)

-- The keys after one that starts with x do not start with a smaller unit.
pub begin_above : (x : ℕ) (a : List ℕ) (m : UnitMap) → KeyBelowAll (x ∷ a) m → AllBeginFrom x m
begin_above x a [] h = tt
begin_above x a (e ∷ m) h = (begins_above x a e.0 h.0, begin_above x a m h.1)

next_by : (u : ℕ) (key : List ℕ) (v : ℤ) (m : UnitMap) → AllBeginFrom u ((key, v) ∷ m) → IsAscendingKeys ((key, v) ∷ m)
    → (slice_get key 0 ≡ Some u → ⊥) → AllBeginFrom (u + 1) ((key, v) ∷ m)
next_by u [] v m b h out = absurd b.0
next_by u (x ∷ key) v m b h out =
    let above : u + 1 ≤ x = elim (cases_lt u x) [
      | inl lt ↦ omega (arith, lt)
      | inr le ↦ let same : x ≡ u = omega (arith, le, b.0) in
          absurd (out (ap Some same))
    ] in
    (above, all_begin_more (u + 1) x m above (begin_above x key m h.0))

pub first_at : (key : List ℕ) (d : ℕ) → slice_get (drop d key) 0 ≡ slice_get key d
first_at key zero = refl
first_at [] (suc d) = refl
first_at (x ∷ key) (suc d) = first_at key d

-- The keys after a group start with a greater unit.
pub next_begin : (d u : ℕ) (es : List Entry) → AllBeginFrom u (cut d es) → IsAscendingKeys (cut d es) → (unit_of es d ≡ Some u → ⊥)
    → AllBeginFrom (u + 1) (cut d es)
next_begin d u [] b h out = tt
next_begin d u (e ∷ es) b h out = next_by u (drop d e.key.now) e.value (cut d es) b h (λ g. out (sym (first_at e.key.now d) ∙ g))

-- ---- loops over entries

pub group_more : (d u i : ℕ) (es : List Entry) → IsGroup d u (take i es) → unit_of (drop i es) d ≡ Some u → IsGroup d u (take (suc i) es)
group_more d u zero [] g h = tt
group_more d u zero (e ∷ es) g h = (h, tt)
group_more d u (suc i) [] g h = tt
group_more d u (suc i) (e ∷ es) g h = (g.0, group_more d u i es g.1 h)

pub share_more : (d j k i : ℕ) (first : List ℕ) (es : List Entry) → j ≤ k → AllShare d k first (take i es)
    → AllShare d j first (take 1 (drop i es)) → AllShare d j first (take (suc i) es)
share_more d j k zero first es h a b = b
share_more d j k (suc i) first [] h a b = tt
share_more d j k (suc i) first (e ∷ es) h a b = (take_less j k (drop d e.key.now) first h a.0, share_more d j k i first es h a.1 b)

-- Units that are shared with a prefix of a list are shared with the list.
pub share_part : (d j k : ℕ) (first : List ℕ) (es : List Entry) → j ≤ k → AllShare d j (take k first) es → AllShare d j first es
share_part d j k first [] h a = tt
share_part d j k first (e ∷ es) h a = (a.0 ∙ take-take j k first h, share_part d j k first es h a.1)

pub option_is : (o : Option ℕ) (u : ℕ) → option_eq nat_eq o (Some u) ≡ true → o ≡ Some u
option_is None u h = cc
option_is (Some x) u h = ap Some (eqb-true x u h)

pub is_by : (o : Option ℕ) (u : ℕ) (r : Bool) → r ≡ not (option_eq nat_eq o (Some u)) → r ≡ false → o ≡ Some u
is_by o u r e h = option_is o u (cases (option_eq nat_eq o (Some u)) (sym h ∙ e))
  where
    cases : (b : Bool) → false ≡ not b → b ≡ true
    cases true h = refl
    cases false h = cc

-- A step of the loop that finds the units that all keys share.
pub share_step : (d j k i : ℕ) (units part : List ℕ) (es rest : List Entry) → part ≡ take k units → rest ≡ drop i es → k ≤ length units
    → j ≤ length part
    → AllShare d k units (take i es) → AllShare d j part (take 1 rest) → (j ≤ k) × AllShare d j units (take (i + 1) es)
share_step d j k i units part es rest e f h l a b =
    let len : length part ≡ k = ap length e ∙ length-take-le k units h in
    let le : j ≤ k = omega (arith, l, len) in
    let b' : AllShare d j (take k units) (take 1 (drop i es)) =
    subst (λ z. AllShare d j z (take 1 (drop i es))) e (subst (λ z. AllShare d j part (take 1 z)) f b) in
    (le, rw add-one (share_more d j k i units es le a (share_part d j k units (take 1 (drop i es)) le b')))

pub group_step : (d u i : ℕ) (es rest : List Entry) (o : Option ℕ) → rest ≡ drop i es → o ≡ unit_of rest d → o ≡ Some u
    → IsGroup d u (take i es) → IsGroup d u (take (i + 1) es)
group_step d u i es rest o e f g h = rw add-one (group_more d u i es h (ap (λ z. unit_of z d) (sym e) ∙ sym f ∙ g))
