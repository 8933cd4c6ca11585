-- The range that a walk returns.
use Rattle.std.specs.Prelude.{◌≡◌, ◌≢◌, ℕ, ◌+◌, ◌<◌, ◌≤◌, Option, Some, IfSome, IfNone, IsSomeAnd, false}
use Rattle.std.specs.Range.{range_inclusive_start, range_inclusive_end, range_inclusive_exhausted}
use Rattle.icu_trie_core.specs.declared.header.CodePointTrieHeader.{CodePointTrieHeader}
use Rattle.icu_trie_core.specs.declared.range.CodePointMapRange.{CodePointMapRange}
use Rattle.icu_trie_core.specs.Contents.{Contents}
use Rattle.icu_trie_core.specs.Format.{answer}
use Rattle.icu_trie_core.specs.Runs.{Run}
use Rattle.icu_trie_core.specs.Seen.{seen, SeesFrom, Misses}

module _ {A : Type 0} where
  -- The first code point of a range.
  abbrev pub first_of : CodePointMapRange A → ℕ
  first_of r = range_inclusive_start r.range

  -- The last code point of a range (inclusive).
  abbrev pub last_of : CodePointMapRange A → ℕ
  last_of r = range_inclusive_end r.range

  -- A range as a run of look-up results.
  abbrev pub run_of : CodePointMapRange A → Run (Option A)
  run_of r = record { first = first_of r; last = last_of r; value = Some r.value }

  -- A range as a run of values.
  abbrev pub value_run : CodePointMapRange A → Run A
  value_run r = record { first = first_of r; last = last_of r; value = r.value }

-- What a walk from c returns, for any trie.
pub record GivesWalk {A : Type 0} (of_number : ℕ → Option A) (h : CodePointTrieHeader)
    (cells : Contents A) (c : ℕ) (r : Option (CodePointMapRange A)) : Type 0 where
  -- A returned range starts at c, has the value of c, is within the code points and is not
  -- exhausted.
  pub shape : IfSome r (λ x. (first_of x ≡ c) × (c ≤ last_of x) × (last_of x < 0x110000)
      × (range_inclusive_exhausted x.range ≡ false) × (answer h cells c ≡ Some x.value))
  -- From the high start on, it extends to the last code point.
  pub high : h.high_start ≤ c → IfSome r (λ x. last_of x ≡ 0x10FFFF)
  -- If the walk sees that value at c, the range extends as far as the walk sees it, and the walk
  -- sees another value right after.
  pub run : c < h.high_start → IfSome r (λ x. seen of_number h cells c ≡ Some x.value
      → SeesFrom of_number h cells c (last_of x + 1) x.value
      × (last_of x + 1 < 0x110000
      → IsSomeAnd (seen of_number h cells (last_of x + 1)) (λ y. y ≢ x.value)))
  -- If the walk sees a value at c that differs from the look-up's, the range is c alone.
  pub alone : c < h.high_start → IfSome r (λ x. seen of_number h cells c ≢ Some x.value
      → (last_of x ≡ c) × IsSomeAnd (seen of_number h cells c) (λ y. y ≢ x.value))
  -- No range is returned in three cases: c is above 0x10FFFF, the look-up of c yields the error
  -- value, or the walk reaches a code point at which it sees nothing.
  pub none : IfNone r (c < 0x110000 → (value : A) → answer h cells c ≡ Some value
      → (c < h.high_start) × Misses of_number h cells c value)
