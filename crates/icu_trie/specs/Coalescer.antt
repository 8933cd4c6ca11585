-- The steps of the iterator that joins ranges.
use Rattle.std.specs.Prelude.{Bool, true, List, ◌++◌, Option, option_to_list, ⊤}
use Rattle.std.specs.declared.iter.Fuse.{Fuse}
use Rattle.itertools.specs.Adaptor.{Adapts}
use Rattle.icu_trie_core.specs.declared.range.CodePointMapRange.{CodePointMapRange}
use Rattle.icu_trie.specs.JoinedRanges.{joined_ranges}
use Rattle.icu_trie.specs.declared.iterator_utils.RangeListIteratorCoalescer.{RangeListIteratorCoalescer}

module _ {S A : Type 0} where
  -- The inner iterator, which is not called again once it has returned None.
  abbrev pub coalescer_source : RangeListIteratorCoalescer S A → Fuse S
  coalescer_source s = s.iter

  -- The range that was taken from the inner iterator and is not joined yet.
  abbrev pub coalescer_peek : RangeListIteratorCoalescer S A → Option (CodePointMapRange A)
  coalescer_peek s = s.peek

  -- The ranges still to come, if the inner iterator still yields xs.
  abbrev pub coalescer_gives : (A → A → Bool) → RangeListIteratorCoalescer S A
      → List (CodePointMapRange A) → List (CodePointMapRange A)
  coalescer_gives eq s xs = joined_ranges eq (option_to_list (coalescer_peek s) ++ xs)

  -- One call of `next`: it takes ranges from the inner iterator and returns the first joined range.
  abbrev pub coalescer_steps : (S → Option (CodePointMapRange A) → S → Type 0) → (A → A → Bool)
      → RangeListIteratorCoalescer S A → Option (CodePointMapRange A)
      → RangeListIteratorCoalescer S A → Type 0
  coalescer_steps steps eq =
      Adapts true steps coalescer_source (λ s (k : ⊤). ⊤) (λ k. coalescer_gives eq)
