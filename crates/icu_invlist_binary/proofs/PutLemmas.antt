-- Writing units one after another.
use Rattle.std.proofs.Common.{◌≡◌, ◌∙◌, ℕ, ◌+◌, ◌<◌, ◌≤◌, List, [], ◌∷◌, ◌++◌, length, get_or, slice_get, Some, take, drop, set, refl, ap, sym, arith, suc, zero, append_assoc, append-nil, length-append, subst}
use Rattle.std.proofs.lemmas.List.{drop-drop, drop-set-lt, length-set, take_more, take_more_set}
use Rattle.std.proofs.lemmas.Grind.{flat_map-append}
use Rattle.std.proofs.lemmas.List.Folds.{length-flat_map-take}
use Rattle.icu_invlist_binary.specs.SerializedSet.{count_of_singles, head_units, units_of, units_of_end, units_of_ends}
use Rattle.icu_invlist_binary.specs.Inside.Target.{IsPut}

pub put_none : (old : List ℕ) (at : ℕ) → IsPut old at [] old
put_none old at = let e : at + 0 ≡ at = omega arith in
    record { front = rw e (sym (append-nil (take at old))); back = refl; same_length = refl }

pub put_one : (old : List ℕ) (at x : ℕ) → at < length old → IsPut old at (x ∷ []) (set old at x)
put_one old at x h = record {
  front = take_more_set old at x h;
  back = drop-set-lt (at + 1) old at x (omega arith);
  same_length =
      length-set old at x;
}

-- Units after others.
pub put_more : (old middle new us vs : List ℕ) (at next : ℕ) → IsPut old at us middle → next ≡ at + length us → IsPut middle next vs new
    → IsPut old at (us ++ vs) new
put_more old middle new us vs at next p n q =
    let l = length-append us vs in
    let e : at + length (us ++ vs) ≡ next + length vs = omega arith in
    let f : take next middle ≡ take at old ++ us = rw n p.front in
    let g : drop next middle ≡ drop next old = rw n p.back in
    record {
      front = rw e (q.front ∙ (ap (λ (ys : List ℕ). ys ++ vs) f ∙ append_assoc (take at old) us vs));
      back =
          rw e (q.back ∙ (sym (drop-drop (length vs) next middle)
          ∙ (ap (λ (ys : List ℕ). drop (length vs) ys) g ∙ drop-drop (length vs) next old)));
      same_length = q.same_length ∙ p.same_length;
    }

get_place : (xs : List ℕ) (i x : ℕ) → slice_get xs i ≡ Some x → get_or xs i 0 ≡ x
get_place [] i x e = cc
get_place (y ∷ ys) zero x e = cc
get_place (y ∷ ys) (suc i) x e = get_place ys i x e

units_more : (xs more : List ℕ) (i x : ℕ) → i < length xs → slice_get xs i ≡ Some x → units_of_end x ≡ more
    → units_of_ends (take (i + 1) xs) ≡ units_of_ends (take i xs) ++ more
units_more xs more i x h e u =
    let a : take (i + 1) xs ≡ take i xs ++ x ∷ [] = take_more xs i 0 h ∙ ap (λ (y : ℕ). take i xs ++ y ∷ []) (get_place xs i x e) in
    ap units_of_ends a ∙ (flat_map-append units_of_end (take i xs) (x ∷ [])
    ∙ (ap (λ (ys : List ℕ). units_of_ends (take i xs) ++ ys) (append-nil (units_of_end x))
    ∙ ap (λ (ys : List ℕ). units_of_ends (take i xs) ++ ys) u))

-- The units of the first i boundaries are written, and `next` is the index after them.
pub record PutUpTo (old xs : List ℕ) (at i next : ℕ) (new : List ℕ) : Type 0 where
  pub place : next ≡ at + length (units_of_ends (take i xs))
  pub put : IsPut old at (units_of_ends (take i xs)) new

pub up_to_more : (old xs middle new more : List ℕ) (at i next x : ℕ) → PutUpTo old xs at i next middle → i < length xs
    → slice_get xs i ≡ Some x → units_of_end x ≡ more → IsPut middle next more new
    → PutUpTo old xs at (i + 1) (next + length more) new
up_to_more old xs middle new more at i next x p h e u q =
    let m = units_more xs more i x h e u in
    let l = length-append (units_of_ends (take i xs)) more in
    let n = ap length m in
    record {
      place = let a = p.place in omega arith;
      put = subst (λ (us : List ℕ). IsPut old at us new) (sym m)
          (put_more old middle new (units_of_ends (take i xs)) more at next p.put p.place q);
    }

-- The slice is long enough for the units of the next boundary.
pub room : (old xs new more : List ℕ) (at i next x : ℕ) → PutUpTo old xs at i next new → i < length xs → slice_get xs i ≡ Some x
    → units_of_end x ≡ more → at + length (units_of_ends xs) ≤ length old
    → next + length more ≤ length new
room old xs new more at i next x p h e u r =
    let a = length-flat_map-take units_of_end xs i 0 h in
    let b : length (units_of_end (get_or xs i 0)) ≡ length more = ap (λ (y : ℕ). length (units_of_end y)) (get_place xs i x e)
    ∙ ap length u in
    let c = p.place in let d = p.put.same_length in omega arith

-- ---- the whole set
-- Its first units, followed by the units of its boundaries.
pub set_put : (ends old middle new : List ℕ) (u s at : ℕ) → u ≡ length (units_of_ends ends) → s ≡ count_of_singles ends
    → at ≡ length (head_units u s) → IsPut old 0 (head_units u s) middle
    → IsPut middle at (units_of_ends ends) new → IsPut old 0 (units_of ends) new
set_put ends old middle new u s at e f n p q =
    let k = put_more old middle new (head_units u s) (units_of_ends ends) 0 at p (omega arith) q in
    let l = subst (λ (m : ℕ). IsPut old 0 (head_units m s ++ units_of_ends ends) new) e k in
    subst (λ (m : ℕ). IsPut old 0 (head_units (length (units_of_ends ends)) m ++ units_of_ends ends) new) f l

pub length_of_set : (ends : List ℕ) (u s : ℕ) → u ≡ length (units_of_ends ends) → s ≡ count_of_singles ends
    → length (head_units u s) + u ≡ length (units_of ends)
length_of_set ends u s e f =
    let a = length-append (head_units (length (units_of_ends ends)) (count_of_singles ends)) (units_of_ends ends) in
    rw (e, f) (sym a)
