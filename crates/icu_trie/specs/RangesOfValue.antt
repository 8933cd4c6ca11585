-- The ranges of a trie that have a certain value, and the iterator over them.
use Rattle.std.specs.Prelude.{◌≡◌, ℕ, Bool, true, List, [], map, filter, Option, IfSome, option_map}
use Rattle.std.specs.declared.ops.RangeInclusive.{RangeInclusive}
use Rattle.std.specs.Iterator.{YieldsThen}
use Rattle.icu_trie_core.specs.declared.range.CodePointMapRange.{CodePointMapRange}
use Rattle.icu_trie.specs.declared.ranges.CodePointMapRangeIterator.{CodePointMapRangeIterator}
use Rattle.icu_trie.specs.declared.ranges_of_value.IterRangesForValue.{IterRangesForValue}
use Rattle.icu_trie.specs.Parts.{Parts}
use Rattle.icu_trie_core.specs.Runs.{AreMaximalRuns}
use Rattle.icu_trie_core.specs.Range.{run_of}
use Rattle.icu_trie.specs.Ranges.{AreRangesFrom, answers}
use Rattle.icu_trie.specs.Iterators.{GivesNextRange}

module _ {A : Type 0} (eq : A → A → Bool) where
  -- Those of the ranges whose value equals `value`, in order.
  abbrev pub with_value : A → List (CodePointMapRange A) → List (CodePointMapRange A)
  with_value value xs = filter (λ x. eq x.value value) xs

  -- The code points of those ranges of the trie that have the value, in order.
  pub record AreRangesOfValue (of_number : ℕ → Option A) (p : Parts A) (value : A)
      (ranges : List (RangeInclusive ℕ)) : Type 0 where
    pub all : List (CodePointMapRange A)
    pub given : AreRangesFrom of_number p 0 all
    pub selected : ranges ≡ map (λ x. x.range) (with_value value all)

  -- The code points of those maximal runs of the trie's look-up results that have the value, in
  -- order.
  pub record AreRunsOfValue (p : Parts A) (value : A)
      (ranges : List (RangeInclusive ℕ)) : Type 0 where
    pub all : List (CodePointMapRange A)
    pub maximal : AreMaximalRuns (answers p) (map run_of all)
    pub selected : ranges ≡ map (λ x. x.range) (with_value value all)

module _ {A : Type 0} {m : _} where
  -- The iterator over all ranges.
  abbrev pub value_iterator_source : IterRangesForValue A m → CodePointMapRangeIterator A m
  value_iterator_source s = s.ranges

  -- The value that the iterator looks for.
  abbrev pub value_iterator_value : IterRangesForValue A m → A
  value_iterator_value s = s.value

  -- One call of `next`: it skips ranges with other values and returns the next one with the value,
  -- or None if there is none left.
  pub record GivesNextOfValue (of_number : ℕ → Option A) (eq : A → A → Bool)
      (s : IterRangesForValue A m) (r : Option (RangeInclusive ℕ))
      (t : IterRangesForValue A m) : Type 0 where
    pub same : value_iterator_value t ≡ value_iterator_value s
    pub passed : List (CodePointMapRange A)
    pub last : Option (CodePointMapRange A)
    pub calls : YieldsThen (GivesNextRange of_number) (value_iterator_source s) passed last
        (value_iterator_source t)
    pub others : with_value eq (value_iterator_value s) passed ≡ []
    pub gives : r ≡ option_map (λ x. x.range) last
    pub has : IfSome last (λ x. eq x.value (value_iterator_value s) ≡ true)
