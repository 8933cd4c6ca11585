-- Reading the ranges of a property, one after another.
use Rattle.std.proofs.Common.{◌≡◌, ℕ, ◌+◌, ◌<◌, ◌≤◌, ◌||◌, Bool, true, false, List, [], ◌∷◌, ◌++◌, Result, Ok, Err, get_or, length, drop, map, refl, sym, ap, ◌∙◌}
use Rattle.toml.specs.View.{view, items_view}
use Rattle.toml.specs.declared.value.Value.{Value}
use Rattle.icu_zerovec.specs.CodePoints.{code_point_limit}
use Rattle.icu_zerovec.specs.FirstFault.{read_from}
use Rattle.icu_zerovec.proofs.CallerLemmas.{at_end, at_start, goes_on, stops, with_front}
use Rattle.icu_invlist.specs.InversionList.{between, holds}
use Rattle.icu_invlist.proofs.CallerLemmas.{holds-nil}
use Rattle.ucptrie_sets.specs.TomlSets.{is_listed, list_of, range_of, ranges_in, IsRefused, IsSetOfRanges}
use Rattle.ucptrie_sets.specs.declared.error.SetFileError.{SetFileError}
use Rattle.ucptrie_sets.specs.declared.error.SetFileError.TheVariants.{NotToml, NoSets, Missing, Several, NoRanges, NotAPair, Reversed, Memory}

pub list_of-items_view : (vs : List Value) → list_of (items_view vs) ≡ map view vs
list_of-items_view [] = refl
list_of-items_view (v ∷ vs) = ap (λ z. view v ∷ z) (list_of-items_view vs)

or-false : (b : Bool) → b ≡ b || false
or-false true = refl
or-false false = refl

or-assoc : (a b d : Bool) → a || (b || d) ≡ (a || b) || d
or-assoc true b d = refl
or-assoc false b d = refl

-- one more range
is_listed-last : (rs : List (ℕ × ℕ)) (r : ℕ × ℕ) (c : ℕ) → is_listed (rs ++ r ∷ []) c ≡ is_listed rs c || between r.0 (r.1 + 1) c
is_listed-last [] r c = sym (or-false (between r.0 (r.1 + 1) c))
is_listed-last (q ∷ rs) r c = ap (λ b. between q.0 (q.1 + 1) c || b) (is_listed-last rs r c)
    ∙ or-assoc (between q.0 (q.1 + 1) c) (is_listed rs c) (between r.0 (r.1 + 1) c)

-- the items before the i-th are ranges, and the set has their code points
pub record AreReadUpTo (items : List Value) (i : ℕ) (set : List ℕ) : Type 0 where
  pub front : List (ℕ × ℕ)
  pub read : with_front front (read_from range_of i (map view (drop i items))) ≡ ranges_in (map view items)
  pub members : IsSetOfRanges front set

pub none_read : (items : List Value) (set : List ℕ) → set ≡ [] → AreReadUpTo items 0 set
none_read items set none = record {
  front = [];
  read = at_start (ranges_in (map view items));
  members = λ c below. ap (λ s. holds s c) none ∙ holds-nil c;
}

pub one_more_read : (items : List Value) (i : ℕ) (x : Value) (old new : List ℕ) (r : ℕ × ℕ) → AreReadUpTo items i old → i < length items
    → x ≡ get_or items i x → range_of i (view x) ≡ Ok r
    → ((c : ℕ) → c < code_point_limit → holds new c ≡ holds old c || between r.0 (r.1 + 1) c) → AreReadUpTo items (i + 1) new
one_more_read items i x old new r h below is range grown = record {
  front = h.front ++ r ∷ [];
  read = goes_on range_of view items i x h.front (h.front ++ r ∷ []) (ranges_in (map view items)) r below is h.read range refl;
  members = λ c within. grown c within
      ∙ (ap (λ b. b || between r.0 (r.1 + 1) c) (h.members c within) ∙ sym (is_listed-last h.front r c));
}

pub stops_reading : (items : List Value) (i : ℕ) (x : Value) (set : List ℕ) (f : SetFileError) → AreReadUpTo items i set → i < length items
    → x ≡ get_or items i x → range_of i (view x) ≡ Err f → ranges_in (map view items) ≡ Err f
stops_reading items i x set f h below is fault =
    stops range_of view items i x h.front (ranges_in (map view items)) f below is h.read fault

pub all_read : (items : List Value) (i : ℕ) (old : List ℕ) → AreReadUpTo items i old → length items ≤ i → (new : List ℕ) → new ≡ old
    → (ranges : List (ℕ × ℕ)) × (ranges_in (map view items) ≡ Ok ranges) × IsSetOfRanges ranges new
all_read items i old h end new same = (
  h.front,
  at_end range_of view items i h.front (ranges_in (map view items)) end h.read,
  λ c below. ap (λ s. holds s c) same ∙ h.members c below,
)

pub refused : {A : Type 0} (read : Result A SetFileError) (f : SetFileError) → read ≡ Err f → IsRefused read f
refused read NotToml h = h
refused read NoSets h = h
refused read Missing h = h
refused read Several h = h
refused read NoRanges h = h
refused read (NotAPair i) h = h
refused read (Reversed i) h = h
refused read Memory h = tt
