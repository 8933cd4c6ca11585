-- What a walk returns.
use Rattle.std.proofs.Common.{◌≡◌, ◌≢◌, inl, inr, ℕ, ◌+◌, ◌-◌, ◌<◌, ◌≤◌, List, Option, Some, None, IsSomeAnd, sym, ap, ◌∙◌, max, arith, rules, refl}
use Rattle.std.proofs.lemmas.Bool.{cases_lt, false≢true}
use Rattle.std.specs.declared.ops.RangeInclusive.{RangeInclusive}
use Rattle.std.specs.Range.{range_inclusive_start, range_inclusive_end, range_inclusive_exhausted}
use Rattle.std.specs.Prelude.{false}
use Rattle.icu_trie_core.specs.Contents.{Contents, contents_of}
use Rattle.icu_trie_core.specs.declared.header.CodePointTrieHeader.{CodePointTrieHeader}
use Rattle.icu_trie_core.specs.declared.range.CodePointMapRange.{CodePointMapRange}
use Rattle.icu_trie_core.specs.Format.{answer, high_value}
use Rattle.icu_trie_core.specs.Coherence.{IsCoherent}
use Rattle.icu_trie_core.specs.Runs.{LongestRun}
use Rattle.icu_trie_core.specs.Seen.{seen}
use Rattle.icu_trie_core.specs.Inside.Walk.{blocks_end, EndsAt, BreaksOff}
use Rattle.icu_trie_core.specs.Range.{GivesWalk, last_of}
use Rattle.icu_trie_core.proofs.AnswerLemmas.{none_or_some}
use Rattle.icu_trie_core.proofs.SeenLemmas.{seen-from_high, seen-below, seen-high}

-- A walk reached the end of the blocks, before 0x110000.
module _ {A : Type 0} (of_number : ℕ → Option A) (h : CodePointTrieHeader) (cells : Contents A) {start limit end : ℕ} {value : A}
    (is : limit ≡ blocks_end h) (ends : EndsAt (seen of_number h cells) start (blocks_end h) value end) (whole : limit ≤ end)
    (lt : limit < 0x110000) where
  -- There is no high value.
  pub BreaksOff-at_high : high_value cells.values ≡ None → BreaksOff (seen of_number h cells) start 0x110000 value
  BreaksOff-at_high none =
      let b = ends.begun in let w = ends.within in
      record {
        place = limit;
        begun = omega (arith, b, w);
        within = lt;
        equal = λ u a d. ends.equal u a (omega (arith, whole, d));
        missing = seen-from_high of_number h cells limit (omega arith) ∙ none;
      }

  -- The walk continues over the high value.
  pub EndsAt-over_high : IsSomeAnd (high_value cells.values) (λ y. y ≡ value)
      → EndsAt (seen of_number h cells) start 0x110000 value 0x110000
  EndsAt-over_high same =
      let b = ends.begun in let w = ends.within in
      record {
        begun = omega (arith, b, w);
        within = omega arith;
        equal = λ u a d. elim (cases_lt u limit) [
          | inl p ↦ ends.equal u a (omega (arith, p, whole))
          | inr p ↦ seen-from_high of_number h cells u (omega (arith, p)) ∙ some_is (high_value cells.values) same
        ];
        differs = λ no. absurd (omega (arith, no));
      }
    where
      some_is : (o : Option A) → IsSomeAnd o (λ y. y ≡ value) → o ≡ Some value
      some_is None e = absurd e
      some_is (Some x) e = ap (λ y. Some y) e

  -- The walk ends at the high start.
  pub EndsAt-at_high : IsSomeAnd (high_value cells.values) (λ y. y ≢ value) → EndsAt (seen of_number h cells) start 0x110000 value limit
  EndsAt-at_high other =
      let b = ends.begun in let w = ends.within in
      record {
        begun = omega (arith, b, w);
        within = omega (arith, lt);
        equal = λ u a d. ends.equal u a (omega (arith, whole, d));
        differs = λ _. rw (seen-from_high of_number h cells limit (omega arith)) other;
      }

module _ {A : Type 0} (of_number : ℕ → Option A) (h : CodePointTrieHeader) (index : List ℕ) (values : List A) (c : ℕ) where
  -- A walk that reaches its end returns a range.
  pub GivesWalk-from_ends : (range : RangeInclusive ℕ) (value : A) (end : ℕ) → range_inclusive_start range ≡ c
      → range_inclusive_end range ≡ max end (c + 1) - 1 → range_inclusive_exhausted range ≡ false
      → answer h (contents_of index values) c ≡ Some value → c < h.high_start → c < 0x110000
      → EndsAt (seen of_number h (contents_of index values)) c 0x110000 value end
      → GivesWalk of_number h (contents_of index values) c (Some (record { range = range; value = value }))
  GivesWalk-from_ends range value end first last fresh is below lt e =
      let b = e.begun in let w = e.within in
      record {
        shape = (first, omega (arith, last), omega (arith, last, b, w, lt), fresh, is);
        high = λ no. absurd (omega (arith, no, below));
        run = λ _ saw. elim (cases_lt c end) [
          | inl p ↦
              let next : range_inclusive_end range + 1 ≡ end = omega (arith, last, p) in
              rw next (e.equal, e.differs)
          | inr p ↦
              let here : end ≡ c = omega (arith, b, p) in
              let other = rw here at (e.differs (omega (arith, here, lt))) in
              absurd (let no = rw saw at other in no refl)
        ];
        alone = λ _ other. elim (cases_lt c end) [
          | inl p ↦ absurd (other (e.equal c (omega arith) p))
          | inr p ↦
              let here : end ≡ c = omega (arith, b, p) in
              (omega (arith, last, here), rw here at (e.differs (omega (arith, here, lt))))
        ];
        none = search rules;
      }

  -- A walk returns no range if the look-up of its start yields the error value.
  pub GivesWalk-from_none : answer h (contents_of index values) c ≡ None → GivesWalk of_number h (contents_of index values) c None
  GivesWalk-from_none missing = record {
    shape = search rules;
    high = λ _. search rules;
    run = λ _. search rules;
    alone = λ _. search rules;
    none = λ lt value is. cc;
  }

  -- A walk that breaks off returns no range.
  pub GivesWalk-from_break : (value : A) → answer h (contents_of index values) c ≡ Some value → c < h.high_start
      → BreaksOff (seen of_number h (contents_of index values)) c 0x110000 value → GivesWalk of_number h (contents_of index values) c None
  GivesWalk-from_break value is below e = record {
    shape = search rules;
    high = λ _. search rules;
    run = λ _. search rules;
    alone = λ _. search rules;
    none = λ lt other is_other.
        let same : value ≡ other = cc in
        (below, rw (sym same) (e.place, e.begun, e.within, e.equal, e.missing));
  }

  -- A walk over a coherent trie returns the longest run.
  pub LongestRun-from_gives : IsCoherent of_number h (contents_of index values) → (r : Option (CodePointMapRange A))
      → GivesWalk of_number h (contents_of index values) c r → c < 0x110000
      → IsSomeAnd r (λ x. LongestRun (answer h (contents_of index values)) c (last_of x) (Some x.value))
  LongestRun-from_gives coherent None gives lt = elim (none_or_some (answer h (contents_of index values) c)) [
    | inl none ↦ absurd (no_missing c lt none)
    | inr some ↦
        let m = (gives.none lt some.0 some.1).1 in
        absurd (no_missing m.0 m.2 (sym (saw m.0 m.2) ∙ m.4))
  ]
    where
      saw : (u : ℕ) → u < 0x110000 → seen of_number h (contents_of index values) u ≡ answer h (contents_of index values) u
      saw u w = elim (cases_lt u h.high_start) [
        | inl p ↦ seen-below of_number h index values coherent u p
        | inr p ↦
            seen-high of_number h index values coherent u p w
      ]

      no_missing : (u : ℕ) → u < 0x110000 → answer h (contents_of index values) u ≡ None → ⊥
      no_missing u w none = elim (cases_lt u h.high_start) [
        | inl p ↦ let some = coherent.inside u p in false≢true (rw none at some)
        | inr p ↦ let some = coherent.high u p w in let e = some.1 in false≢true (rw (sym some.0 ∙ none) at e)
      ]
  LongestRun-from_gives coherent (Some x) gives lt =
      let s = gives.shape in
      elim (cases_lt c h.high_start) [
        | inl p ↦
            let run = gives.run p (seen-below of_number h index values coherent c p ∙ s.4) in
            record {
              ordered = s.1;
              within = s.2;
              equal = λ u a b. sym (saw u (omega (arith, b, s.2))) ∙ run.0 u a (omega (arith, b));
              ends = λ w e. let other = run.1 w in absurd (let no = rw (saw (last_of x + 1) w ∙ e) at other in no refl);
            }
        | inr p ↦
            let last = gives.high p in
            record {
              ordered = s.1;
              within = s.2;
              equal = λ u a b. (coherent.high u (omega (arith, p, a)) (omega (arith, b, s.2))).0 ∙ sym (coherent.high c p lt).0 ∙ s.4;
              ends = λ w e. absurd (omega (arith, last, w));
            }
      ]
    where
      saw : (u : ℕ) → u < 0x110000 → seen of_number h (contents_of index values) u ≡ answer h (contents_of index values) u
      saw u w = elim (cases_lt u h.high_start) [
        | inl p ↦ seen-below of_number h index values coherent u p
        | inr p ↦
            seen-high of_number h index values coherent u p w
      ]
