-- The iterator over the ranges of a trie.
use Rattle.std.specs.Prelude.{◌≡◌, ℕ, ◌+◌, Option, MatchOption}
use Rattle.icu_trie_core.specs.Contents.{contents_of}
use Rattle.icu_trie_core.specs.declared.range.CodePointMapRange.{CodePointMapRange}
use Rattle.icu_trie.specs.declared.ranges.CodePointMapRangeIterator.{CodePointMapRangeIterator}
use Rattle.icu_trie.specs.Parts.{Parts}
use Rattle.icu_trie_core.specs.Range.{GivesWalk, last_of}

module _ {A : Type 0} {m : _} where
  -- The trie of an iterator.
  abbrev pub iterator_trie : CodePointMapRangeIterator A m → Parts A
  iterator_trie s = s.trie.now

  -- The start of an iterator's next range.
  abbrev pub iterator_next : CodePointMapRangeIterator A m → ℕ
  iterator_next s = s.next

  -- One call of `next`: it returns the range that starts after the previous one. Once it returns
  -- None, it returns None forever.
  pub record GivesNextRange (of_number : ℕ → Option A) (s : CodePointMapRangeIterator A m)
      (r : Option (CodePointMapRange A)) (t : CodePointMapRangeIterator A m) : Type 0 where
    pub same : t.trie ≡ s.trie
    pub gives : GivesWalk of_number (iterator_trie s).header
        (contents_of (iterator_trie s).index (iterator_trie s).values) (iterator_next s) r
    pub moves : MatchOption r (iterator_next t ≡ 0x110000) (λ x. iterator_next t ≡ last_of x + 1)
