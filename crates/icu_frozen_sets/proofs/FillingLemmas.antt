-- Filling the bits, step by step.
use Rattle.std.proofs.Common.{◌≡◌, ◌∙◌, ℕ, ◌+◌, ◌/◌, ◌%◌, ◌<◌, ◌≤◌, List, refl, ap, sym, arith, Bool, true, false, not, inl, inr}
use Rattle.std.specs.Prelude.{◌||◌}
use Rattle.std.proofs.lemmas.Bool.{cases_eq, cases_lt, eq-eqb, ne_eqb}
use Rattle.icu_zerovec.specs.CodePoints.{code_point_limit}
use Rattle.icu_invlist.specs.InversionList.{between}
use Rattle.icu_frozen_sets.specs.FrozenWords.{bit_in}
use Rattle.icu_frozen_sets.specs.Inside.Filling.{IsFilledBelow, IsFilling, SetsBlock, filled, is_odd_at}
use Rattle.icu_frozen_sets.proofs.BitLemmas.{between_after, between_before, between_in, between_more, or_false, or_true}
use Rattle.icu_frozen_sets.proofs.BlockLemmas.{empty_block}

-- ---- the block of a code point
pub filled_here : (t block : List ℕ) (at c : ℕ) → c / 1024 ≡ at → filled t block at c ≡ is_odd_at block c
unfolding filled
filled_here t block at c e = rw (eq-eqb (c / 1024) at e) refl

pub filled_else : (t block : List ℕ) (at c : ℕ) → (c / 1024 ≡ at → ⊥) → filled t block at c ≡ bit_in t c
unfolding filled
filled_else t block at c n = rw (ne_eqb (c / 1024) at n) refl

-- ---- no range
pub none_filled : (t block : List ℕ) → IsFilling t 0 → ((c : ℕ) → is_odd_at block c ≡ false) → IsFilledBelow t block 0 0
none_filled t block f none = record {
  here = omega arith;
  none = λ c l h. elim (cases_eq (c / 1024) 0) [
    | inl q ↦ filled_here t block 0 c q ∙ none c
    | inr n ↦ filled_else t block 0 c n
        ∙ empty_block t c f.tables (f.empty (c / 1024) (omega (arith, n)) (omega arith) (omega (arith, h)))
  ];
}

pub below_later : (t block : List ℕ) (at next later : ℕ) → IsFilledBelow t block at next → next ≤ later
    → IsFilledBelow t block at later
below_later t block at next later b l =
    let here = b.here in
    record { here = omega (arith, here, l); none = λ c m h. b.none c (omega (arith, l, m)) h }

-- ---- the current block is written, and an empty one begins
pub moved_same : (t new block empty : List ℕ) (at next : ℕ) → IsFilling t at → at < next
    → SetsBlock t new at (is_odd_at block) → ((c : ℕ) → is_odd_at empty c ≡ false)
    → (c : ℕ) → c < code_point_limit → filled new empty next c ≡ filled t block at c
moved_same t new block empty at next f order s none c h = elim (cases_eq (c / 1024) next) [
  | inl q ↦ filled_here new empty next c q ∙ (none c ∙ sym (filled_else t block at c (λ p. omega (arith, order, p, q))
      ∙ empty_block t c f.tables (f.empty (c / 1024) (omega (arith, q, order)) (omega (arith, q, order)) (omega (arith, h)))))
  | inr n ↦ filled_else new empty next c n ∙ elim (cases_eq (c / 1024) at) [
    | inl q ↦ s.set c q ∙ sym (filled_here t block at c q)
    | inr m ↦ s.kept c m h ∙ sym (filled_else t block at c m)
  ]
]

-- ---- the blocks up to a later one are filled
pub filled_to : (t new empty full : List ℕ) (next last : ℕ) → next ≤ last → ((c : ℕ) → is_odd_at empty c ≡ false)
    → ((c : ℕ) → is_odd_at full c ≡ not (is_odd_at empty c))
    → ((c : ℕ) → c < code_point_limit → bit_in new c ≡ (bit_in t c || between next last (c / 1024)))
    → (c : ℕ) → c < code_point_limit → filled new full last c ≡ (filled t empty last c || between next (last + 1) (c / 1024))
filled_to t new empty full next last order none all bits c h = elim (cases_eq (c / 1024) last) [
  | inl q ↦ filled_here new full last c q ∙ (all c ∙ (ap not (none c)
      ∙ sym (rw (between_in next (last + 1) (c / 1024) (omega (arith, q, order)) (omega (arith, q))) (or_true _))))
  | inr n ↦ filled_else new full last c n ∙ (bits c h ∙ (ap (λ (b : Bool). bit_in t c || b) (between_more next last (c / 1024) n)
      ∙ ap (λ (b : Bool). b || between next (last + 1) (c / 1024)) (sym (filled_else t empty last c n))))
]

-- No block is to be filled.
pub filled_none : (b : Bool) (next c : ℕ) → b ≡ (b || between next next c)
filled_none b next c = elim (cases_lt c next) [
  | inl l ↦ sym (rw (between_before next next c l) (or_false b))
  | inr l ↦ sym (rw (between_after next next c l) (or_false b))
]

-- ---- a range more
-- The tests flip from a code point on to the end of its block.
pub record FlipsFrom (from : ℕ) (old new : ℕ → Bool) : Type 0 where
  pub kept : (c : ℕ) → (c / 1024 ≡ from / 1024 → c < from) → new c ≡ old c
  pub flipped : (c : ℕ) → c / 1024 ≡ from / 1024 → from ≤ c → new c ≡ not (old c)

pub flips_from : (t block new : List ℕ) (at to from : ℕ) → at ≡ from / 1024 → to ≡ from / 1024
    → ((d : ℕ) → d % 1024 < from % 1024 → is_odd_at new d ≡ is_odd_at block d)
    → ((d : ℕ) → from % 1024 ≤ d % 1024 → is_odd_at new d ≡ not (is_odd_at block d))
    → FlipsFrom from (filled t block at) (filled t new to)
flips_from t block new at to from a b before after = record {
  kept = λ c l. elim (cases_eq (c / 1024) (from / 1024)) [
    | inl q ↦ filled_here t new to c (q ∙ sym b) ∙ (before c (let m = l q in omega (arith, m, q))
        ∙ sym (filled_here t block at c (q ∙ sym a)))
    | inr n ↦ filled_else t new to c (λ q. n (q ∙ b)) ∙ sym (filled_else t block at c (λ q. n (q ∙ a)))
  ];
  flipped = λ c q l. filled_here t new to c (q ∙ sym b) ∙ (after c (omega (arith, q, l))
      ∙ ap not (sym (filled_here t block at c (q ∙ sym a))));
}

-- Flips from the start and from the end add a range, if the blocks between them are filled.
module _ (start end at : ℕ) (order : start < end) (here : at ≡ start / 1024) (old first whole new : ℕ → Bool)
    (none : (c : ℕ) → start ≤ c → c < code_point_limit → old c ≡ false) (starts : FlipsFrom start old first)
    (fills : (c : ℕ) → c < code_point_limit → whole c ≡ (first c || between (at + 1) (end / 1024 + 1) (c / 1024)))
    (ends : FlipsFrom end whole new) where
  -- Until the end is marked, the range has the rest of its last block.
  open_in : (c : ℕ) → c < code_point_limit → start ≤ c → c / 1024 ≤ end / 1024 → whole c ≡ true
  open_in c h l m = fills c h ∙ elim (cases_eq (c / 1024) (start / 1024)) [
    | inl q ↦ ap (λ (b : Bool). b || between (at + 1) (end / 1024 + 1) (c / 1024)) (starts.flipped c q l ∙ ap not (none c l h))
    | inr n ↦ rw (between_in (at + 1) (end / 1024 + 1) (c / 1024) (omega (arith, here, l, n)) (omega (arith, m))) (or_true _)
  ]

  open_before : (c : ℕ) → c < code_point_limit → c < start → whole c ≡ old c
  open_before c h l = fills c h
      ∙ (rw (between_before (at + 1) (end / 1024 + 1) (c / 1024) (omega (arith, here, l))) (or_false _) ∙ starts.kept c (λ q. l))

  open_after : (c : ℕ) → c < code_point_limit → end / 1024 < c / 1024 → whole c ≡ old c
  open_after c h l = fills c h ∙ (rw (between_after (at + 1) (end / 1024 + 1) (c / 1024) (omega (arith, l))) (or_false _)
      ∙ starts.kept c (λ q. absurd (omega (arith, order, l, q))))

  pub added : (c : ℕ) → c < code_point_limit → new c ≡ (old c || between start end c)
  added c h = elim (cases_lt c start) [
    | inl l ↦ ends.kept c (λ q. omega (arith, l, order)) ∙ (open_before c h l
        ∙ sym (rw (between_before start end c l) (or_false _)))
    | inr l ↦ elim (cases_lt c end) [
      | inl m ↦ ends.kept c (λ q. m) ∙ (open_in c h l (omega (arith, m))
          ∙ sym (rw (between_in start end c l m) (or_true _)))
      | inr m ↦ after m
    ]
  ] where
    after : end ≤ c → new c ≡ (old c || between start end c)
    after m = (elim (cases_eq (c / 1024) (end / 1024)) [
      | inl q ↦ ends.flipped c q m ∙ (ap not (open_in c h (omega (arith, m, order)) (omega (arith, q)))
          ∙ sym (none c (omega (arith, m, order)) h))
      | inr n ↦ ends.kept c (λ q. absurd (n q)) ∙ open_after c h (omega (arith, m, n))
    ]) ∙ sym (rw (between_after start end c m) (or_false _))

  pub added_none : (c : ℕ) → c < code_point_limit → end ≤ c → new c ≡ false
  added_none c h m = added c h ∙ rw (between_after start end c m) (or_false _ ∙ none c (omega (arith, m, order)) h)
