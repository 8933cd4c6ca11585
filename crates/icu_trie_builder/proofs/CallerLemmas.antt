-- What other crates may use about maps that are written to and built.
use Rattle.std.proofs.Common.{◌≡◌, ℕ, ◌*◌, ◌≤◌, Bool, true, false, List, map, Some, ap, ◌∙◌, nat_le, cond, refl, arith}
use Rattle.std.proofs.lemmas.Bool.Decides.{nat_tests}
use Rattle.icu_trie_core.proofs.CallerLemmas.{value_runs-some}
use Rattle.icu_trie_core.specs.Format.{fast_offset, small_offset}
use Rattle.icu_trie_core.specs.Range.{run_of, value_run}
use Rattle.icu_trie_core.specs.Runs.{AreMaximalRuns}
use Rattle.icu_trie_core.specs.declared.header.CodePointTrieHeader.{CodePointTrieHeader}
use Rattle.icu_trie_core.specs.declared.range.CodePointMapRange.{CodePointMapRange}
use Rattle.icu_trie.proofs.CallerLemmas.{AreMappedRunsFrom-same}
use Rattle.icu_trie.specs.MappedRanges.{AreMappedRunsFrom}
use Rattle.icu_trie.specs.Parts.{Parts, last_cell}
use Rattle.icu_trie.specs.Ranges.{answers}
use Rattle.icu_trie_builder.proofs.RangesOfMap.{answers-at}
use Rattle.icu_trie_builder.specs.CodePointMap.{CodePointMap, IsAfter, map_answer, map_value}
use Rattle.icu_trie_builder.specs.MapAnswers.{AnswersMap, HasRangesOf}
use Rattle.icu_trie_builder.specs.NullBlock.{NamesNull, SomeHoldsOne}
use Rattle.icu_trie_builder.specs.Writes.{answer_after, value_after}
use Rattle.icu_trie_builder.specs.declared.writes.Write.{Write}
-- The writes of two lists, one after the other.
pub use Rattle.icu_trie_builder.proofs.AfterLemmas.{IsAfter-append, value_after-append}
-- How many distinct blocks of one length there are after few writes.
pub use Rattle.icu_trie_builder.proofs.FewWrites.{count_different-few}
-- The number of distinct blocks is at most the number of blocks.
pub use Rattle.icu_trie_builder.proofs.CompactionLemmas.Different.{count_different-le_count}
-- The results of look-ups and walks over the cells of a trie of a map.
pub use Rattle.icu_trie_builder.proofs.RangesOfMap.{answer-of-map, longest_of_map, no_answer-of-map}
-- If the header of a trie of a map names no block of the data, no block of 512 is named as null.
pub use Rattle.icu_trie_builder.proofs.NoNullBlock.{no_512-of-map}

-- The values of a map that had the default everywhere depend only on the writes.
pub map_answer-after : {T : Type 0} (default error : T) (ws : List (Write T)) (blank written : CodePointMap T)
    → ((c : ℕ) → c ≤ 0x10FFFF → map_value blank c ≡ default) → blank.error ≡ error
    → IsAfter ws blank written → (u : ℕ) → map_answer written u ≡ answer_after default error ws u
map_answer-after default error ws blank written values e after u = by (nat_le u 0x10FFFF) refl
  where
    by : (b : Bool) → nat_le u 0x10FFFF ≡ b → cond b (map_value written u) written.error ≡ cond b (value_after ws default u) error
    by true h =
        let l : u ≤ 0x10FFFF = grind (arith, nat_tests) in
        after.values u l ∙ ap (λ y. value_after ws y u) (values u l)
    by false h = after.error ∙ e

-- The ranges of a trie of a map are the map's maximal runs.
pub ranges-of-map : {T : Type 0} (f : ℕ → T) (t : Parts T) → HasRangesOf f t → (xs : List (CodePointMapRange T))
    → AreMaximalRuns (answers t) (map run_of xs) → AreMaximalRuns f (map value_run xs)
ranges-of-map f t of xs runs = (of.runs (map value_run xs)).0 (rw (value_runs-some xs) at runs)

module _ {T : Type 0} (f : ℕ → T) (error : T) (t : Parts T) where
  -- If the values are mapped, they are the mapped runs.
  pub mapped-ranges-of-map : {B : Type 0} (eq : B → B → Bool) (h : T → B) → AnswersMap f error t → (rs : List (CodePointMapRange B))
      → AreMappedRunsFrom eq h (answers t) 0 rs → AreMappedRunsFrom eq h (λ c. Some (f c)) 0 rs
  mapped-ranges-of-map eq h of rs runs = AreMappedRunsFrom-same eq h (answers t) (λ c. Some (f c)) (answers-at f error t of) 0 rs runs

  -- The last cell of a trie of a map is the map's error value.
  pub error-of-map : AnswersMap f error t → last_cell t.values ≡ Some error
  error-of-map of = rw (of.look_up 0x110000) at (of.value 0x110000)

-- If some aligned block has one number throughout, the header names such a block as null.
pub NamesNull-some : (h : CodePointTrieHeader) (index : List ℕ) (f : ℕ → ℕ) → NamesNull h index f
    → SomeHoldsOne h.trie_type h.high_start f (λ _. Unit {0}) (λ _. Unit {0})
    → SomeHoldsOne h.trie_type h.high_start f (λ b. fast_offset index (b * 64) ≡ Some h.data_null_offset)
    (λ b. small_offset h.trie_type index (b * 16) ≡ Some h.data_null_offset)
unfolding NamesNull
NamesNull-some h index f named some = named some
