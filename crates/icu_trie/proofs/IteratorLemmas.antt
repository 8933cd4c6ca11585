-- An iterator of ranges yields the ranges of its trie. Over a coherent trie, these are its maximal
-- runs.
use Rattle.std.proofs.Common.{◌≡◌, ◌≤◌, ◌+◌, ℕ, List, [], ◌∷◌, map, Option, None, Some, inl, inr, arith, sym, ap, ◌∙◌}
use Rattle.std.proofs.lemmas.Bool.{cases_lt}
use Rattle.std.specs.Iterator.{Yields, Drains}
use Rattle.icu_trie_core.specs.Runs.{AreRunsFrom}
use Rattle.icu_trie.specs.Parts.{Parts}
use Rattle.icu_trie_core.specs.Range.{run_of, last_of}
use Rattle.icu_trie.specs.Ranges.{AreRangesFrom, answers, IsCoherentTrie}
use Rattle.icu_trie.specs.Iterators.{GivesNextRange, iterator_trie, iterator_next}
use Rattle.icu_trie_core.specs.declared.range.CodePointMapRange.{CodePointMapRange}
use Rattle.icu_trie.specs.declared.ranges.CodePointMapRangeIterator.{CodePointMapRangeIterator}
use Rattle.icu_trie_core.proofs.CallerLemmas.{LongestRun-from_gives}

module _ {A : Type 0} {m : _} (of_number : ℕ → Option A) (trie : Parts A) where
  AreRangesFrom-from_run : (xs : List (CodePointMapRange A)) (s t u : CodePointMapRangeIterator A m) → iterator_trie s ≡ trie
      → Yields (GivesNextRange of_number) s xs t → GivesNextRange of_number t None u → AreRangesFrom of_number trie (iterator_next s) xs
  AreRangesFrom-from_run [] s t u of y none =
      let none' : GivesNextRange of_number s None u = rw y none in
      rw (sym of) none'.gives
  AreRangesFrom-from_run (x ∷ xs) s t u of y none =
      let step = y.1 in
      (rw (sym of) step.gives, rw (sym step.moves) (AreRangesFrom-from_run xs y.0 t u (ap (λ p. p.now) step.same ∙ of) y.2 none))

  pub AreRangesFrom-from_drained : (xs : List (CodePointMapRange A)) (s : CodePointMapRangeIterator A m) → iterator_trie s ≡ trie
      → iterator_next s ≡ 0
      → Drains (GivesNextRange of_number) s xs → AreRangesFrom of_number trie 0 xs
  AreRangesFrom-from_drained xs s of start d = rw (sym start) (AreRangesFrom-from_run xs s d.1.0 d.0 of d.1.1 d.1.2)

-- The ranges of a coherent trie are its maximal runs.
pub AreRunsFrom-from_ranges : {A : Type 0} (of_number : ℕ → Option A) (trie : Parts A) → IsCoherentTrie of_number trie
    → (c : ℕ) (xs : List (CodePointMapRange A)) → c ≤ 0x110000 → AreRangesFrom of_number trie c xs
    → AreRunsFrom (answers trie) c (map run_of xs)
AreRunsFrom-from_ranges of_number trie coherent c [] within gives = elim (cases_lt c 0x110000) [
  | inl p ↦ absurd (LongestRun-from_gives of_number trie.header trie.index trie.values c coherent None gives p)
  | inr p ↦ omega (arith, p, within)
]
AreRunsFrom-from_ranges of_number trie coherent c (x ∷ xs) within ranges =
    let shape = ranges.0.shape in
    let first = shape.0 in let up = shape.1 in let last = shape.2 in
    let longest = LongestRun-from_gives of_number trie.header trie.index trie.values c coherent (Some x) ranges.0
    (omega (arith, up, last)) in
    (first, rw first longest, AreRunsFrom-from_ranges of_number trie coherent (last_of x + 1) xs (omega (arith, last)) ranges.1)
