-- A trie that has the values of a map has its ranges and its value sets.
use Rattle.std.proofs.Common.{◌≡◌, ℕ, ◌+◌, ◌<◌, ◌≤◌, Some, None, arith, sym, ◌∙◌, ap}
use Rattle.std.proofs.lemmas.Bool.Decides.{nat_tests}
use Rattle.icu_trie_core.specs.Contents.{contents_of}
use Rattle.icu_trie_core.proofs.CallerLemmas.{AreMaximalRuns-same, AreMaximalRuns-some}
use Rattle.icu_trie_core.specs.Format.{answer}
use Rattle.icu_trie_core.specs.Runs.{LongestRun}
use Rattle.icu_trie.specs.Parts.{Parts}
use Rattle.icu_trie.specs.Ranges.{answers}
use Rattle.icu_trie_builder.specs.MapAnswers.{AnswersMap, HasRangesOf}

module _ {T : Type 0} (f : ℕ → T) (error : T) (t : Parts T) (a : AnswersMap f error t) where
  -- The look-up result of a code point.
  pub answers-at : (c : ℕ) → c < 0x110000 → answers t c ≡ Some (f c)
  answers-at c l = let e = a.look_up c in grind (arith, nat_tests)

  pub HasRangesOf-from_answers : HasRangesOf f t
  HasRangesOf-from_answers = record {
    runs = AreMaximalRuns-some (answers t) f answers-at;
    sets = λ v c l. (
      λ e. let same : Some (f c) ≡ Some v = sym (answers-at c l) ∙ e in let one : f c ≡ v = cc in one,
      λ e. answers-at c l ∙ ap (λ x. Some x) e,
    );
  }

-- ---- A look-up or a walk, however the cells are stored.
module _ {T : Type 0} (f : ℕ → T) (error : T) (t : Parts T) (of : AnswersMap f error t) where
  -- The look-up result of a code point is the map's value.
  pub answer-of-map : (u : ℕ) → u ≤ 0x10FFFF → answer t.header (contents_of t.index t.values) u ≡ Some (f u)
  answer-of-map u l = grind (arith, nat_tests, of.look_up u)

  -- Above 0x10FFFF there is none.
  pub no_answer-of-map : (u : ℕ) → 0x10FFFF < u → answer t.header (contents_of t.index t.values) u ≡ None
  no_answer-of-map u l = grind (arith, nat_tests, of.look_up u)

  -- The longest run that a walk returns is the map's.
  pub longest_of_map : (first last : ℕ) (v : T) → LongestRun (answer t.header (contents_of t.index t.values)) first last (Some v)
      → LongestRun f first last v
  longest_of_map first last v run = record {
    ordered = run.ordered;
    within = run.within;
    equal = λ u l k. some_same (sym (answer-of-map u (omega (arith, k, run.within))) ∙ run.equal u l k);
    ends = λ l e. run.ends l (answer-of-map (last + 1) (omega (arith, l)) ∙ ap Some e);
  }
    where
      some_same : {a b : T} → Some a ≡ Some b → a ≡ b
      some_same e = cc

-- Maps that are equal on all code points have the same ranges and value sets.
pub HasRangesOf-alike : {T : Type 0} (f g : ℕ → T) → ((k : ℕ) → k < 0x110000 → f k ≡ g k) → (t : Parts T) → HasRangesOf f t
    → HasRangesOf g t
HasRangesOf-alike f g same t h = record {
  runs = λ rs.
      let one = h.runs rs in
      let other = AreMaximalRuns-same f g same rs in
      (λ a. other.0 (one.0 a), λ a. one.1 (other.1 a));
  sets = λ v c l. let both = h.sets v c l in (λ e. sym (same c l) ∙ both.0 e, λ e. both.1 (same c l ∙ e));
}
