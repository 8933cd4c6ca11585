-- The loop that reads the boundaries from the items.
use Rattle.std.proofs.Common.{◌≡◌, ℕ, ◌+◌, ◌<◌, ◌≤◌, List, [], ◌∷◌, ◌++◌, Option, Some, None, Result, Ok, Err, refl, sym, ap, ◌∙◌, length, get_or, drop, map}
use Rattle.std.specs.Option.{ok_or}
use Rattle.std.specs.Str.{chars}
use Rattle.serde_json.specs.Data.{Data, null, boolean, number, string, array, object, Items, no_items, item}
use Rattle.serde_json.specs.Find.{as_str}
use Rattle.serde_json.specs.View.{view, items_view}
use Rattle.serde_json.specs.declared.value.Value.{Value}
use Rattle.icu_zerovec.specs.FirstFault.{and_then, before, read_from}
use Rattle.icu_zerovec.proofs.CallerLemmas.{with_front, stops, goes_on, at_end, at_start}
use Rattle.icu_invlist.specs.SetJson.{range_at, range_or, ends_of_ranges, ends_in, list_of, SayEnds}
use Rattle.icu_invlist.proofs.TextLemmas.{range_found, range_only}
use Rattle.icu_invlist.specs.declared.codepointinvlist.error.SetJsonError.{SetJsonError}
use Rattle.icu_invlist.specs.declared.codepointinvlist.error.SetJsonError.TheVariants as errors

pub list_of-items_view : (vs : List Value) → list_of (items_view vs) ≡ map view vs
list_of-items_view [] = refl
list_of-items_view (v ∷ vs) = ap (λ z. view v ∷ z) (list_of-items_view vs)

-- ---- an item
pub or_no_string : (i : ℕ) (d : Data) → as_str d ≡ None → range_or i d ≡ Err (errors.NotAString i)
or_no_string i d e = ap (λ o. and_then (ok_or o (errors.NotAString i)) (λ t. ok_or (range_at (chars t)) (errors.NotARange i))) e

pub or_range : (i : ℕ) (d : Data) (t : List ℕ) (r : Option (ℕ × ℕ)) → as_str d ≡ Some t → range_at (chars t) ≡ r
    → range_or i d ≡ ok_or r (errors.NotARange i)
or_range i d t r e f = ap (λ o. and_then (ok_or o (errors.NotAString i)) (λ t. ok_or (range_at (chars t)) (errors.NotARange i))) e
    ∙ ap (λ o. ok_or o (errors.NotARange i)) f

-- ---- the loop
ends-append : (rs : List (ℕ × ℕ)) (r : ℕ × ℕ) → ends_of_ranges (rs ++ r ∷ []) ≡ (ends_of_ranges rs ++ r.0 ∷ []) ++ (r.1 + 1) ∷ []
ends-append [] r = refl
ends-append (s ∷ rs) r = ap (λ (z : List ℕ). s.0 ∷ (s.1 + 1) ∷ z) (ends-append rs r)

-- The boundaries so far are those of the ranges before item i.
pub record RangesRead (vs : List Value) (i : ℕ) (ends : List ℕ) : Type 0 where
  pub ranges : List (ℕ × ℕ)
  pub are : ends ≡ ends_of_ranges ranges
  pub read : with_front ranges (read_from range_or i (map view (drop i vs))) ≡ read_from range_or 0 (map view vs)

pub none_read : (vs : List Value) (ends : List ℕ) → ends ≡ [] → RangesRead vs 0 ends
none_read vs ends e = record { ranges = []; are = e; read = at_start (read_from range_or 0 (map view vs)) }

pub one_more_read : (vs : List Value) (i : ℕ) (x : Value) (ends ends' : List ℕ) (a b : ℕ) → RangesRead vs i ends → i < length vs
    → x ≡ get_or vs i x → range_or i (view x) ≡ Ok (a, b)
    → ends' ≡ (ends ++ a ∷ []) ++ (b + 1) ∷ [] → RangesRead vs (i + 1) ends'
one_more_read vs i x ends ends' a b s h e r f = record {
  ranges = s.ranges ++ (a, b) ∷ [];
  are = f ∙ (ap (λ (z : List ℕ). (z ++ a ∷ []) ++ (b + 1) ∷ []) s.are ∙ sym (ends-append s.ranges (a, b)));
  read = goes_on range_or view vs i x s.ranges (s.ranges ++ (a, b) ∷ []) _ (a, b) h e s.read r refl;
}

ends_in_view : (vs : List Value) (r : Result (List (ℕ × ℕ)) SetJsonError) → read_from range_or 0 (map view vs) ≡ r
    → ends_in (items_view vs) ≡ and_then r (λ rs. Ok (ends_of_ranges rs))
ends_in_view vs r e = ap (λ z. and_then (read_from range_or 0 z) (λ rs. Ok (ends_of_ranges rs))) (list_of-items_view vs)
    ∙ ap (λ z. and_then z (λ rs. Ok (ends_of_ranges rs))) e

pub fault_read : (vs : List Value) (i : ℕ) (x : Value) (ends : List ℕ) (f : SetJsonError) → RangesRead vs i ends → i < length vs
    → x ≡ get_or vs i x → range_or i (view x) ≡ Err f
    → ends_in (items_view vs) ≡ Err f
fault_read vs i x ends f s h e r = ends_in_view vs (Err f) (stops range_or view vs i x s.ranges _ f h e s.read r)

pub all_read : (vs : List Value) (i : ℕ) (ends : List ℕ) → RangesRead vs i ends → length vs ≤ i → ends_in (items_view vs) ≡ Ok ends
all_read vs i ends s h = ends_in_view vs (Ok s.ranges) (at_end range_or view vs i s.ranges _ h s.read) ∙ ap (λ z. Ok z) (sym s.are)

-- ---- the boundaries that are read are those that the strings spell
pub same_ok : {A : Type 0} (a b : A) → ◌≡◌ {A = Result A SetJsonError} (Ok a) (Ok b) → a ≡ b
same_ok a b h = cc

say_range : (i : ℕ) (t : List ℕ) (items : Items) (r : Option (ℕ × ℕ)) (others : Result (List (ℕ × ℕ)) SetJsonError) (rs : List (ℕ × ℕ))
    → range_at (chars t) ≡ r
    → ((more : List (ℕ × ℕ)) → others ≡ Ok more → SayEnds items (ends_of_ranges more))
    → before (ok_or r (errors.NotARange i)) others ≡ Ok rs → SayEnds (item (string t) items) (ends_of_ranges rs)
say_range i t items None others rs e go h = absurd cc
say_range i t items (Some x) (Ok more) rs e go h =
    (x.0, x.1, ends_of_ranges more, range_found (chars t) x.0 x.1 e, ap ends_of_ranges (sym (same_ok _ _ h)), go more refl)
say_range i t items (Some x) (Err f) rs e go h = absurd cc

ranges_found : (i : ℕ) (items : Items) (rs : List (ℕ × ℕ)) → read_from range_or i (list_of items) ≡ Ok rs
    → SayEnds items (ends_of_ranges rs)
unfolding read_from
ranges_found i no_items rs h = ap ends_of_ranges (sym (same_ok [] rs h))
ranges_found i (item null items) rs h = absurd cc
ranges_found i (item (boolean b) items) rs h = absurd cc
ranges_found i (item (number n) items) rs h = absurd cc
ranges_found i (item (string t) items) rs h =
    say_range i t items (range_at (chars t)) (read_from range_or (i + 1) (list_of items)) rs refl
    (λ more g. ranges_found (i + 1) items more g) h
ranges_found i (item (array ds) items) rs h = absurd cc
ranges_found i (item (object ms) items) rs h = absurd cc

found_in : (items : Items) (ends : List ℕ) (r : Result (List (ℕ × ℕ)) SetJsonError) → read_from range_or 0 (list_of items) ≡ r
    → and_then r (λ rs. Ok (ends_of_ranges rs)) ≡ Ok ends → SayEnds items ends
found_in items ends (Ok rs) e h = rw (sym (same_ok (ends_of_ranges rs) ends h)) (ranges_found 0 items rs e)
found_in items ends (Err f) e h = absurd cc

pub ends_found : (items : Items) (ends : List ℕ) → ends_in items ≡ Ok ends → SayEnds items ends
ends_found items ends h = found_in items ends (read_from range_or 0 (list_of items)) refl h

ranges_only : (i : ℕ) (items : Items) (ends : List ℕ) → SayEnds items ends
    → (rs : List (ℕ × ℕ)) × (read_from range_or i (list_of items) ≡ Ok rs) × (ends ≡ ends_of_ranges rs)
unfolding read_from
ranges_only i no_items ends h = ([], refl, h)
ranges_only i (item null items) ends h = absurd h
ranges_only i (item (boolean b) items) ends h = absurd h
ranges_only i (item (number n) items) ends h = absurd h
ranges_only i (item (string t) items) ends (a, b, rest, r, e, more) =
    let m = ranges_only (i + 1) items rest more in (
      (a, b) ∷ m.0,
      ap (λ z. before (ok_or z (errors.NotARange i)) (read_from range_or (i + 1) (list_of items))) (range_only (chars t) a b r)
          ∙ ap (before (Ok (a, b))) m.1,
      e ∙ ap (λ (z : List ℕ). a ∷ (b + 1) ∷ z) m.2,
    )
ranges_only i (item (array ds) items) ends h = absurd h
ranges_only i (item (object ms) items) ends h = absurd h

pub ends_only : (items : Items) (ends : List ℕ) → SayEnds items ends → ends_in items ≡ Ok ends
ends_only items ends h = let m = ranges_only 0 items ends h in
    ap (λ z. and_then z (λ rs. Ok (ends_of_ranges rs))) m.1 ∙ ap (λ z. Ok z) (sym m.2)

-- A fault of the boundaries is a fault of the ranges.
pub fault_of_ranges : (e : SetJsonError) (r : Result (List (ℕ × ℕ)) SetJsonError)
    → ◌≡◌ {A = Result (List ℕ) SetJsonError} (and_then r (λ rs. Ok (ends_of_ranges rs))) (Err e) → r ≡ Err e
fault_of_ranges e (Ok rs) h = absurd cc
fault_of_ranges e (Err f) h = let k : f ≡ e = cc in ap (λ z. Err z) k
