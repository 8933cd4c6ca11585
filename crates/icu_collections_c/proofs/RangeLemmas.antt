-- Ranges of a trie that are written into a buffer, one after another.
use Rattle.std.proofs.Common.{◌≡◌, ◌∙◌, refl, sym, ap, subst, ℕ, ◌+◌, ◌<◌, ◌≤◌, List, [], ◌∷◌, ◌++◌, length, Option, Some, arith}
use Rattle.std.specs.Prelude.{map, All}
use Rattle.std.proofs.Math.ListN.{set}
use Rattle.std.proofs.lemmas.List.{length-append, length-map, map-append}
use Rattle.std.proofs.lemmas.List.Elements.{All-append, All-cons, All-nil}
use Rattle.icu_trie_core.specs.Contents.{contents_of}
use Rattle.icu_trie_core.specs.declared.range.CodePointMapRange.{CodePointMapRange}
use Rattle.icu_trie_core.specs.Range.{GivesWalk, first_of, last_of}
use Rattle.icu_trie_core.specs.Runs.{LongestRun}
use Rattle.icu_trie.specs.Parts.{Parts}
use Rattle.icu_trie.specs.Ranges.{IsCoherentTrie, answers}
use Rattle.icu_zerovec.specs.Buffers.{written}
use Rattle.icu_collections_c.specs.Ranges.{AreRangesTo, range_of}
use Rattle.icu_collections_c.proofs.BufferLemmas.{written-more, written-none}
use Rattle.icu_collections_c.specs.declared.ranges.Range.{Range}

-- A range as it is written, and what it is in a coherent trie.
abbrev pub shown : {A : Type 0} → (A → ℕ) → CodePointMapRange A → Range
shown number r = range_of number (Some r)

abbrev pub IsLongest : {A : Type 0} → Parts A → CodePointMapRange A → Type 0
IsLongest t r = LongestRun (answers t) (first_of r) (last_of r) (Some r.value)

-- So many ranges from c on are written, and the next one would start at `next`.
pub record HasWritten {A : Type 0} (of_number : ℕ → Option A) (number : A → ℕ) (t : Parts A) (c : ℕ)
    (before buffer : List Range) (next count : ℕ) : Type 0 where
  pub ranges : List (CodePointMapRange A)
  pub given : AreRangesTo of_number t c ranges next
  pub longest : IsCoherentTrie of_number t → All (IsLongest t) ranges
  pub count_is : count ≡ length ranges
  pub fits : count ≤ length before
  pub buffer_is : buffer ≡ written (map (shown number) ranges) before

module _ {A : Type 0} (of_number : ℕ → Option A) (number : A → ℕ) (t : Parts A) where
  given_more : (c : ℕ) (rs : List (CodePointMapRange A)) (next : ℕ) (r : CodePointMapRange A)
      → AreRangesTo of_number t c rs next → GivesWalk of_number t.header (contents_of t.index t.values) next (Some r)
      → AreRangesTo of_number t c (rs ++ r ∷ []) (last_of r + 1)
  given_more c [] next r e w = (subst (λ n. GivesWalk of_number t.header (contents_of t.index t.values) n (Some r)) (sym e) w, refl)
  given_more c (x ∷ xs) next r h w = (h.0, given_more (last_of x + 1) xs next r h.1 w)

  -- No range yet.
  pub written_none : (c : ℕ) (before : List Range) → HasWritten of_number number t c before before c 0
  written_none c before = record {
    ranges = [];
    given = refl;
    longest = λ _. All-nil (IsLongest t);
    count_is = refl;
    fits = omega arith;
    buffer_is = written-none before;
  }

  module _ (c : ℕ) (before buffer : List Range) (next count : ℕ) where
    -- One more range.
    pub written_more : (r : CodePointMapRange A) (new : List Range) (after : ℕ) → HasWritten of_number number t c before buffer next count
        → count < length before → GivesWalk of_number t.header (contents_of t.index t.values) next (Some r)
        → (IsCoherentTrie of_number t → LongestRun (answers t) next (last_of r) (Some r.value))
        → new ≡ set buffer count (shown number r) → after ≡ last_of r + 1
        → HasWritten of_number number t c before new after (count + 1)
    written_more r new after w room walk longest is next_is = record {
      ranges = w.ranges ++ r ∷ [];
      given = rw next_is (given_more c w.ranges next r w.given walk);
      longest = λ coherent. All-append (IsLongest t) w.ranges (r ∷ []) (w.longest coherent)
          (All-cons (IsLongest t) r [] (rw walk.shape.0 (longest coherent)) (All-nil (IsLongest t)));
      count_is = let long = length-append w.ranges (r ∷ []) in let was = w.count_is in omega arith;
      fits = omega arith;
      buffer_is =
          let shown_so_far = map (shown number) w.ranges in
          let many : count ≡ length shown_so_far = w.count_is ∙ sym (length-map w.ranges (shown number)) in
          is ∙ ap (λ b. set b count (shown number r)) w.buffer_is
          ∙ ap (λ n. set (written shown_so_far before) n (shown number r)) many
          ∙ written-more shown_so_far before (shown number r) (omega (arith, many, room))
          ∙ ap (λ xs. written xs before) (sym (map-append (shown number) w.ranges (r ∷ [])));
    }
