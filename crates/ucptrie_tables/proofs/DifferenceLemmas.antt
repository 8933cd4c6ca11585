-- How the differences of two tries go on from run to run.
use Rattle.std.proofs.Common.{◌≡◌, ◌≢◌, ℕ, ◌+◌, ◌<◌, ◌≤◌, List, [], ◌∷◌, Option, Some, sym, ap, ◌∙◌, arith, inl, inr}
use Rattle.std.proofs.lemmas.Bool.{cases_lt}
use Rattle.icu_trie.specs.Parts.{Parts, trie_value}
use Rattle.icu_trie_core.specs.Range.{first_of, last_of}
use Rattle.icu_trie_core.specs.Runs.{LongestRun}
use Rattle.icu_trie_core.specs.declared.range.CodePointMapRange.{CodePointMapRange}
use Rattle.ucptrie_tables.specs.Differences.{both_values, AreSame, AreDifferencesFrom}

module _ (a b : Parts ℕ) where
  -- a run of one value in both tries
  pub AreSame-run : (s e x y : ℕ) → ((u : ℕ) → s ≤ u → u < e → both_values a b u ≡ (Some x, Some y)) → x ≡ y → AreSame a b s e
  AreSame-run s e x y run same u from below =
      let both = run u from below in
      let first : trie_value a u ≡ Some x = ap (λ (p : Option ℕ × Option ℕ). p.0) both in
      let second : trie_value b u ≡ Some y = ap (λ (p : Option ℕ × Option ℕ). p.1) both in
      first ∙ (ap Some same ∙ sym second)

  joined : (s e t : ℕ) → AreSame a b s e → AreSame a b e t → AreSame a b s t
  joined s e t first second u from below = elim (cases_lt u e) [ inl before ↦ first u from before | inr after ↦ second u after below ]

  -- the tries are the same up to e
  pub differences-same : (s e : ℕ) → s ≤ e → AreSame a b s e → (ds : List (CodePointMapRange (ℕ × ℕ))) → AreDifferencesFrom a b e ds
      → AreDifferencesFrom a b s ds
  differences-same s e le same [] rest = joined s e 0x110000 same rest
  differences-same s e le same (d ∷ ds) rest = (omega (arith, le, rest.0), joined s e (first_of d) same rest.1, rest.2, rest.3)

  -- The same if they differ from s to before e.
  pub differences-other : (d : CodePointMapRange (ℕ × ℕ)) (s e : ℕ) → first_of d ≡ s → last_of d + 1 ≡ e → e ≤ 0x110000
      → ((u : ℕ) → s ≤ u → u < e → both_values a b u ≡ (Some d.value.0, Some d.value.1))
      → (e < 0x110000 → both_values a b e ≢ (Some d.value.0, Some d.value.1))
      → s < e → d.value.0 ≢ d.value.1 → (ds : List (CodePointMapRange (ℕ × ℕ))) → AreDifferencesFrom a b e ds
      → AreDifferencesFrom a b s (d ∷ ds)
  differences-other d s e first last within equal ends some other ds rest =
      let run : LongestRun (both_values a b) (first_of d) (last_of d) (Some d.value.0, Some d.value.1) = record {
        ordered = omega (arith, first, last, some);
        within = omega (arith, last, within);
        equal = λ u from to. equal u (omega (arith, first, from)) (omega (arith, last, to));
        ends = λ below. rw last (ends (omega (arith, last, below)));
      } in (
        omega (arith, first),
        (λ u from below. absurd (omega (arith, first, from, below))),
        record { run = run; different = other },
        rw last rest,
      )

  -- From `stored` on, all have the values of the last code point.
  module _ (stored x y : ℕ) (high : (u : ℕ) → stored ≤ u → u < 0x110000 → both_values a b u ≡ both_values a b 0x10FFFF) where
    pub both_values-high : (c : ℕ) → stored ≤ c → both_values a b c ≡ (Some x, Some y)
        → (u : ℕ) → c ≤ u → u < 0x110000 → both_values a b u ≡ (Some x, Some y)
    both_values-high c from is u after below =
        high u (omega (arith, from, after)) below ∙ (sym (high c from (omega (arith, after, below))) ∙ is)

    pub both_values-stored : (c : ℕ) → ((u : ℕ) → c ≤ u → u < stored → both_values a b u ≡ (Some x, Some y))
        → both_values a b 0x10FFFF ≡ (Some x, Some y) → (u : ℕ) → c ≤ u → u < 0x110000 → both_values a b u ≡ (Some x, Some y)
    both_values-stored c held last u after below =
        elim (cases_lt u stored) [ inl before ↦ held u after before | inr from ↦ high u from below ∙ last ]
