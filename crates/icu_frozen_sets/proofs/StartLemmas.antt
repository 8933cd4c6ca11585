-- The words of a frozen set before any block is set.
use Rattle.std.proofs.Common.{◌≡◌, ◌∙◌, ℕ, ◌+◌, ◌-◌, ◌%◌, ◌^◌, ◌<◌, ◌≤◌, List, [], ◌++◌, length, take, get_or, set, replicate, min, refl, ap, sym, arith, inl, inr}
use Rattle.std.proofs.lemmas.Bool.{cases_eq}
use Rattle.std.proofs.lemmas.Grind.{get_or-set_at}
use Rattle.std.proofs.lemmas.List.{length-append, length-replicate, length-set, get_or_append_left, get_or-append_right, get_or-replicate, get_or-set_other, take_all}
use Rattle.icu_frozen_sets.specs.FrozenWords.{offset_at, offset_words, place_in}
use Rattle.icu_frozen_sets.specs.Inside.Filling.{IsFilling}
use Rattle.icu_frozen_sets.proofs.PlaceLemmas.{place_of_first}

-- The offsets and three blocks: the offsets of the empty block, 32 words of no bit, and 16 of all bits.
module _ (n : ℕ) (some : 1 < n) (few : n ≤ 1088) where
  abbrev pub three_blocks : List ℕ
  three_blocks = (replicate n (n + 16) ++ replicate 32 0) ++ replicate 16 (2 ^ 64 - 1)

  offsets_long : length (replicate n (n + 16)) ≡ n
  offsets_long = length-replicate {A = ℕ} n (n + 16)

  front_long : length (replicate n (n + 16) ++ replicate 32 0) ≡ n + 32
  front_long = length-append (replicate n (n + 16)) (replicate 32 0) ∙ omega (arith, offsets_long)

  -- They are written one after another.
  longer : (m word : ℕ) (had words : List ℕ) (len : ℕ) → length had ≡ len → len ≤ m → words ≡ take m had ++ replicate (m - len) word
      → words ≡ had ++ replicate (m - len) word
  longer m word had words len long l is = is ∙ ap (λ (xs : List ℕ). xs ++ replicate (m - len) word) (take_all m had (omega (arith, long, l)))

  pub blocks_written : (none offsets zeros words : List ℕ) (had first second : ℕ) → none ≡ [] → had ≡ 0 → length offsets ≡ first
      → length zeros ≡ second → offsets ≡ take n none ++ replicate (n - had) (n + 16)
      → zeros ≡ take (n + 32) offsets ++ replicate (n + 32 - first) 0
      → words ≡ take (n + 32 + 16) zeros ++ replicate (n + 32 + 16 - second) (2 ^ 64 - 1) → words ≡ three_blocks
  blocks_written none offsets zeros words had first second empty z f s a b d =
      let len : length none ≡ had = ap (λ (l : List ℕ). length l) empty ∙ sym z in
      let all : n - had ≡ n = omega (arith, z) in
      let one : offsets ≡ replicate n (n + 16) = longer n (n + 16) none offsets had len (omega (arith, z)) a
      ∙ (ap (λ (l : List ℕ). l ++ replicate (n - had) (n + 16)) empty ∙ ap (λ (k : ℕ). replicate k (n + 16)) all) in
      let first_is : first ≡ n = sym f ∙ (ap (λ (l : List ℕ). length l) one ∙ offsets_long) in
      let more : n + 32 - first ≡ 32 = omega (arith, first_is) in
      let two : zeros ≡ replicate n (n + 16) ++ replicate 32 0 = longer (n + 32) 0 offsets zeros first f (omega (arith, first_is)) b
      ∙ (ap (λ (l : List ℕ). l ++ replicate (n + 32 - first) 0) one
      ∙ ap (λ (k : ℕ). replicate n (n + 16) ++ replicate k 0) more) in
      let second_is : second ≡ n + 32 = sym s ∙ (ap (λ (l : List ℕ). length l) two ∙ front_long) in
      let last : n + 32 + 16 - second ≡ 16 = omega (arith, second_is) in
      longer (n + 32 + 16) (2 ^ 64 - 1) zeros words second s (omega (arith, second_is)) d
      ∙ (ap (λ (l : List ℕ). l ++ replicate (n + 32 + 16 - second) (2 ^ 64 - 1)) two
      ∙ ap (λ (k : ℕ). (replicate n (n + 16) ++ replicate 32 0) ++ replicate k (2 ^ 64 - 1)) last)

  pub blocks_long : length three_blocks ≡ n + 48
  blocks_long = length-append (replicate n (n + 16) ++ replicate 32 0) (replicate 16 (2 ^ 64 - 1)) ∙ omega (arith, front_long)

  before_offset : (k : ℕ) → k < n → get_or three_blocks k 0 ≡ n + 16
  before_offset k l =
      get_or_append_left (replicate n (n + 16) ++ replicate 32 0) (replicate 16 (2 ^ 64 - 1)) 0 k (omega (arith, front_long, l))
      ∙ (get_or_append_left (replicate n (n + 16)) (replicate 32 0) 0 k (omega (arith, offsets_long, l)) ∙ get_or-replicate n k (n + 16) 0 l)

  before_none : (k : ℕ) → k < 32 → get_or three_blocks (n + k) 0 ≡ 0
  before_none k l =
      let less : n + k - n ≡ k = omega arith in
      get_or_append_left (replicate n (n + 16) ++ replicate 32 0) (replicate 16 (2 ^ 64 - 1)) 0 (n + k) (omega (arith, front_long, l))
      ∙ (get_or-append_right (replicate n (n + 16)) (replicate 32 0) n (n + k) 0 offsets_long (omega arith)
      ∙ (ap (λ (j : ℕ). get_or (replicate 32 0) j 0) less ∙ get_or-replicate 32 k 0 0 l))

  before_all : (k : ℕ) → k < 16 → get_or three_blocks (n + 32 + k) 0 ≡ 2 ^ 64 - 1
  before_all k l =
      let less : n + 32 + k - (n + 32) ≡ k = omega arith in
      get_or-append_right (replicate n (n + 16) ++ replicate 32 0) (replicate 16 (2 ^ 64 - 1)) (n + 32) (n + 32 + k) 0 front_long (omega arith)
      ∙ (ap (λ (j : ℕ). get_or (replicate 16 (2 ^ 64 - 1)) j 0) less ∙ get_or-replicate 16 k (2 ^ 64 - 1) 0 l)

  module _ (words : List ℕ) (put : words ≡ set three_blocks 0 n) where
    long : length words ≡ n + 48
    long = ap (λ (l : List ℕ). length l) put ∙ (length-set three_blocks 0 n ∙ blocks_long)

    other_word : (k : ℕ) → 0 < k → get_or words k 0 ≡ get_or three_blocks k 0
    other_word k l = ap (λ (l : List ℕ). get_or l k 0) put ∙ get_or-set_other three_blocks 0 k n 0 (λ e. omega (arith, e, l))

    pub empty_offsets : offset_words words ≡ n
    empty_offsets = ap (λ (w : ℕ). w % 2 ^ 32) (ap (λ (l : List ℕ). get_or l 0 0) put
        ∙ get_or-set_at three_blocks 0 0 n 0 refl (let l = blocks_long in omega (arith, l))) ∙ omega (arith, few)

    empty_place : (b : ℕ) → 0 < b → place_in words b ≡ n + 16
    empty_place b l =
        let k : ℕ = min b (n - 1) in
        ap (λ (j : ℕ). offset_at words (min b (j - 1))) empty_offsets
        ∙ (ap (λ (w : ℕ). w % 2 ^ 32) (other_word k (omega (arith, l, some)) ∙ before_offset k (omega (arith, some)))
        ∙ omega (arith, few))

    placed : (b : ℕ) → (offset_words words ≤ place_in words b) × (place_in words b + 16 ≤ length words)
    placed b = elim (cases_eq b 0) [
      | inl q ↦
          let p : place_in words b ≡ n = ap (λ (k : ℕ). place_in words k) q ∙ (place_of_first words ∙ empty_offsets) in
          (omega (arith, p, empty_offsets), omega (arith, p, long))
      | inr m ↦
          let p = empty_place b (omega (arith, m)) in
          (omega (arith, p, empty_offsets), omega (arith, p, long))
    ]

    pub empty_tables : IsFilling words 0
    empty_tables = record {
      tables = record {
        some = omega (arith, empty_offsets, some);
        few = omega (arith, empty_offsets, few);
        least = omega (arith, empty_offsets, long);
        most = omega (arith, empty_offsets, long);
        above = λ b h. (placed b).0;
        placed = λ b h. (placed b).1;
        none = λ k h. (let same : n + 16 + k ≡ n + (16 + k) = omega arith in
            ap (λ (j : ℕ). get_or words (j + 16 + k) 0) empty_offsets ∙ (ap (λ (j : ℕ). get_or words j 0) same
            ∙ (other_word (n + (16 + k)) (omega (arith, some)) ∙ before_none (16 + k) (omega (arith, h)))));
        all = λ k h. ap (λ (j : ℕ). get_or words (j + 32 + k) 0) empty_offsets
            ∙ (other_word (n + 32 + k) (omega (arith, some)) ∙ before_all k h);
      };
      few = omega (arith, empty_offsets, long);
      within = omega arith;
      own = λ h. omega (arith, empty_offsets, some);
      empty = λ b some_b l h. empty_place b some_b ∙ omega (arith, empty_offsets);
    }
