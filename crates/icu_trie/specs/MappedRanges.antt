-- The ranges of a trie whose values are mapped, and the iterators over them.
use Rattle.std.specs.Prelude.{◌≡◌, ℕ, ◌+◌, ◌<◌, ◌≤◌, Bool, true, false, List, [], ◌∷◌, Option, Some, None, ⊤}
use Rattle.std.specs.Range.{range_inclusive_exhausted}
use Rattle.icu_trie_core.specs.declared.range.CodePointMapRange.{CodePointMapRange}
use Rattle.icu_trie.specs.declared.ranges.CodePointMapRangeIterator.{CodePointMapRangeIterator}
use Rattle.icu_trie.specs.declared.iterator_utils.RangeListIteratorCoalescer.{RangeListIteratorCoalescer}
use Rattle.icu_trie.specs.declared.mapped_ranges.MappedRanges.{MappedRanges}
use Rattle.icu_trie.specs.declared.mapped_ranges.IterRangesMapped.{IterRangesMapped}
use Rattle.icu_trie.specs.Parts.{Parts}
use Rattle.icu_trie_core.specs.Range.{first_of, last_of}
use Rattle.icu_trie.specs.Ranges.{AreRangesFrom}
use Rattle.icu_trie.specs.Iterators.{GivesNextRange}
use Rattle.icu_trie.specs.JoinedRanges.{joined_ranges}
use Rattle.itertools.specs.Adaptor.{fuse_can}
use Rattle.icu_trie.specs.Coalescer.{coalescer_source, coalescer_steps}

module _ {A B : Type 0} (eq : B → B → Bool) (h : A → B) (map : ℕ → Option A) where
  -- From `first` to `last` (inclusive) all mapped values equal `value`, which is the mapped value
  -- at `first`.
  pub record MapsTo (first last : ℕ) (value : B) : Type 0 where
    pub ordered : first ≤ last
    pub within : last < 0x110000
    pub starts : (x : A) → map first ≡ Some x → value ≡ h x
    pub equal : (u : ℕ) (x : A) → first ≤ u → u ≤ last → map u ≡ Some x → eq (h x) value ≡ true

  -- In addition, the mapped value at the next code point, if there is one, differs from `value`.
  pub record LongestMappedRun (first last : ℕ) (value : B) : Type 0 where
    pub maps : MapsTo first last value
    pub ends : (x : A) → last + 1 < 0x110000 → map (last + 1) ≡ Some x → eq (h x) value ≡ false

  -- The list of maximal runs, from c on, of the values of `map` under h. Mapped values are compared
  -- with eq.
  abbrev pub AreMappedRunsFrom : ℕ → List (CodePointMapRange B) → Type 0
  AreMappedRunsFrom c [] = c ≡ 0x110000
  AreMappedRunsFrom c (r ∷ rs) =
      (first_of r ≡ c) × (range_inclusive_exhausted r.range ≡ false)
      × LongestMappedRun c (last_of r) r.value × AreMappedRunsFrom (last_of r + 1) rs

module _ {F A B : Type 0} (post : F → A → B → Type 0) (f : F) where
  -- The closure f computes h: it returns h of its argument.
  abbrev pub Answers : (A → B) → Type 0
  Answers h = (x : A) (r : B) → post f x r → r ≡ h x

  -- The same ranges, each with a result of f for its value.
  abbrev pub AreAnswered : List (CodePointMapRange A) → List (CodePointMapRange B) → Type 0
  AreAnswered [] [] = ⊤
  AreAnswered [] (y ∷ ys) = ⊥
  AreAnswered (x ∷ xs) [] = ⊥
  AreAnswered (x ∷ xs) (y ∷ ys) = (y.range ≡ x.range) × post f x.value y.value × AreAnswered xs ys

  -- The same range, if there is one, with a result of f for its value.
  abbrev pub IsAnswered : Option (CodePointMapRange A) → Option (CodePointMapRange B) → Type 0
  IsAnswered None None = ⊤
  IsAnswered None (Some y) = ⊥
  IsAnswered (Some x) None = ⊥
  IsAnswered (Some x) (Some y) = (y.range ≡ x.range) × post f x.value y.value

-- The ranges that a trie returns, each with a result of f for its value, after joining.
pub record AreMappedRangesOf {F A B : Type 0} (of_number : ℕ → Option A) (post : F → A → B → Type 0)
    (eq : B → B → Bool) (f : F) (p : Parts A) (ranges : List (CodePointMapRange B)) : Type 0 where
  pub all : List (CodePointMapRange A)
  pub given : AreRangesFrom of_number p 0 all
  pub answered : List (CodePointMapRange B)
  pub answers : AreAnswered post f all answered
  pub joins : ranges ≡ joined_ranges eq answered

module _ {F A : Type 0} {m : _} where
  -- The iterator over the ranges to map.
  abbrev pub mapped_source : MappedRanges A F m → CodePointMapRangeIterator A m
  mapped_source s = s.ranges

  -- The closure of an iterator over mapped ranges.
  abbrev pub mapped_callee : MappedRanges A F m → F
  mapped_callee s = s.map

  -- One call of `next`: it returns the next range with a result of the closure for its value, or
  -- None after the last range.
  pub record GivesMapped {B : Type 0} (of_number : ℕ → Option A) (post : F → A → B → Type 0)
      (s : MappedRanges A F m) (r : Option (CodePointMapRange B))
      (t : MappedRanges A F m) : Type 0 where
    pub same : mapped_callee t ≡ mapped_callee s
    pub taken : Option (CodePointMapRange A)
    pub step : GivesNextRange of_number (mapped_source s) taken (mapped_source t)
    pub gives : IsAnswered post (mapped_callee s) taken r

  -- The joining iterator inside.
  abbrev pub iter_mapped_source : {B : Type 0} → IterRangesMapped A B F m
      → RangeListIteratorCoalescer (MappedRanges A F m) B
  iter_mapped_source s = s.ranges

  -- `next` can be called: either the closure can be called, or the ranges have ended.
  abbrev pub CanFuse : {B : Type 0} → (F → Type 0) → IterRangesMapped A B F m → Type 0
  CanFuse callable s =
      fuse_can (λ r. callable (mapped_callee r)) (coalescer_source (iter_mapped_source s))

  -- One call of `next` of the iterator over joined mapped ranges.
  abbrev pub iter_mapped_steps : {B : Type 0} → (ℕ → Option A) → (F → A → B → Type 0)
      → (B → B → Bool) → IterRangesMapped A B F m → Option (CodePointMapRange B)
      → IterRangesMapped A B F m → Type 0
  iter_mapped_steps of_number post eq s r t =
      coalescer_steps (GivesMapped of_number post) eq (iter_mapped_source s) r
      (iter_mapped_source t)
