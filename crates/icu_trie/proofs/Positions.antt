-- The position of the data cell of a code point, in each part of a trie, and the value there.
use Rattle.std.proofs.Common.{◌≡◌, inl, inr, nat_lt, if◌then◌else◌, ◌+◌, ◌-◌, ◌*◌, ◌/◌, ◌%◌, ◌<◌, ◌≤◌, ℕ, List, length, slice_get, Option, Some, None, arith, refl, sym, ◌∙◌, ap}
use Rattle.std.proofs.lemmas.Bool.{cases_lt, lt-ltb, le-ltb}
use Rattle.std.proofs.lemmas.Bool.Decides.{nat_tests}
use Rattle.std.proofs.lemmas.Option.{none-some, same_Some, slice_get_cases}
use Rattle.std.specs.Option.{MatchOption, option_and_then, option_or}
use Rattle.icu_trie_core.specs.Contents.{contents_of}
use Rattle.icu_trie_core.specs.FastIndex.{IsWhole, fast_index_len}
use Rattle.icu_trie_core.specs.Format.{answer, fast_limit, place, small_offset}
use Rattle.icu_trie_core.specs.declared.header.CodePointTrieHeader.{CodePointTrieHeader}
use Rattle.icu_trie_core.specs.declared.header.TrieType.{TrieType}
use Rattle.icu_trie_core.specs.declared.header.TrieType.TheVariants.{Fast, Small}
use Rattle.icu_trie_core.proofs.CallerLemmas.{block_inside, data_at_least}
use Rattle.icu_trie.specs.Parts.{Parts, last_cell, parts_fault, place_of, trie_value}

limit_most : (kind : TrieType) → fast_limit kind ≤ 65536
limit_most Fast = omega arith
limit_most Small = omega arith

-- The fast index of parts without a fault is whole.
pub whole_of : {A : Type 0} (of_number : ℕ → Option A) (h : CodePointTrieHeader) (index : List ℕ) (values : List A)
    → parts_fault of_number h index values ≡ None → IsWhole h.trie_type (contents_of index values)
whole_of of_number h index values sound = grind (arith, nat_tests)

module _ (index : List ℕ) (blocks block : ℕ) where
  -- The read of the fast index found no cell.
  pub no_cell_below : blocks ≤ length index → None ≡ (if nat_lt block blocks then slice_get index block else None) → blocks ≤ block
  no_cell_below fits is = elim (cases_lt block blocks) [
    | inl less ↦
        let none : None ≡ slice_get index block = rw (lt-ltb block blocks less) at is in
        elim (slice_get_cases index block).1 [
          | inl some ↦ let other = some.2 in absurd (none-some some.0 (none ∙ other))
          | inr past ↦ let no = past.0 in absurd (omega (arith, no, less, fits))
        ]
    | inr more ↦ more
  ]

  -- It found this cell.
  pub cell_below : (offset : ℕ) → Some offset ≡ (if nat_lt block blocks then slice_get index block else None)
      → (block < blocks) × (slice_get index block ≡ Some offset)
  cell_below offset is = elim (cases_lt block blocks) [
    | inl less ↦ (less, sym (rw (lt-ltb block blocks less) at is))
    | inr more ↦ absurd (none-some offset (sym (rw (le-ltb block blocks more) at is)))
  ]

-- A code point has a block in the fast index if and only if it is below the fast limit.
pub below_limit : (kind : TrieType) (u : ℕ) → u / 64 < fast_index_len kind → u < fast_limit kind
below_limit Fast u less = omega arith
below_limit Small u less = omega arith

past_limit : (kind : TrieType) (u : ℕ) → fast_index_len kind ≤ u / 64 → fast_limit kind ≤ u
past_limit Fast u more = omega arith
past_limit Small u more = omega arith

-- The same about the result of a read.
pub limit_of : (kind : TrieType) (u : ℕ) (result : Option ℕ)
    → MatchOption result (fast_index_len kind ≤ u / 64) (λ _. u / 64 < fast_index_len kind)
    → MatchOption result (fast_limit kind ≤ u) (λ _. u < fast_limit kind)
limit_of kind u None is = past_limit kind u is
limit_of kind u (Some x) is = below_limit kind u is

-- An absent value is the error value, which is in the last cell.
same_last : {A : Type 0} (o : Option A) → option_or o o ≡ o
same_last None = refl
same_last (Some x) = refl

module _ {A : Type 0} (values : List A) where
  found : (q : Option ℕ) (p : ℕ) → option_or q (Some (length values - 1)) ≡ Some p
      → option_or (slice_get values p) (last_cell values) ≡ option_or (option_and_then (slice_get values) q) (last_cell values)
  found None p is = rw (sym (same_Some (length values - 1) p is)) (same_last (last_cell values))
  found (Some x) p is = rw (sym (same_Some x p is)) refl

module _ {A : Type 0} (t : Parts A) (u : ℕ) where
  -- The value of u is at its position, or it is the error value.
  pub value_of_position : (p : ℕ) → place_of t u ≡ Some p
      → option_or (slice_get t.values p) (last_cell t.values) ≡ trie_value t u
  unfolding answer
  value_of_position p is = found t.values (place t.header t.index (length t.values) u) p is

  -- A value that was read there.
  pub found_at : (p : ℕ) (x : A) → place_of t u ≡ Some p → slice_get t.values p ≡ Some x → Some x ≡ trie_value t u
  found_at p x at is = ap (λ o. option_or o (last_cell t.values)) (sym is) ∙ value_of_position p at

  pub fast_position : (offset : ℕ) → u < fast_limit t.header.trie_type → slice_get t.index (u / 64) ≡ Some offset
      → place_of t u ≡ Some (offset + u % 64)
  fast_position offset below is =
      rw (le-ltb 1114111 u (omega (arith, below, limit_most t.header.trie_type)), lt-ltb u (fast_limit t.header.trie_type) below, is) refl

  pub block_position : (block offset place : ℕ) → u ≡ block * 64 + place → place < 64 → block < fast_index_len t.header.trie_type
      → slice_get t.index block ≡ Some offset → place_of t u ≡ Some (offset + place)
  block_position block offset place same small less is =
      let own : u / 64 ≡ block = omega (arith, same, small) in
      let rest : u % 64 ≡ place = omega (arith, same, small) in
      fast_position offset (below_limit t.header.trie_type u (rw (own) less)) (rw (own) is) ∙ ap (λ k. Some (offset + k)) rest

  pub outside_position : 0x110000 ≤ u → place_of t u ≡ Some (length t.values - 1)
  outside_position above = rw (lt-ltb 1114111 u (omega (arith, above))) refl

  module _ (from : fast_limit t.header.trie_type ≤ u) (within : u < 0x110000) where
    pub small_position : (p : ℕ) → u < t.header.high_start
        → option_and_then (λ offset. Some (offset + u % 16)) (small_offset t.header.trie_type t.index u) ≡ Some p
        → place_of t u ≡ Some p
    small_position p below is =
        rw (le-ltb 1114111 u (omega (arith, within)), le-ltb u (fast_limit t.header.trie_type) from, lt-ltb u t.header.high_start below, is)
        refl

    pub small_missing : u < t.header.high_start
        → option_and_then (λ offset. Some (offset + u % 16)) (small_offset t.header.trie_type t.index u) ≡ None
        → place_of t u ≡ Some (length t.values - 1)
    small_missing below is =
        rw (le-ltb 1114111 u (omega (arith, within)), le-ltb u (fast_limit t.header.trie_type) from, lt-ltb u t.header.high_start below, is)
        refl

    pub high_position : t.header.high_start ≤ u → 64 ≤ length t.values → place_of t u ≡ Some (length t.values - 2)
    high_position high least =
        rw (
          le-ltb 1114111 u (omega (arith, within)),
          le-ltb u (fast_limit t.header.trie_type) from,
          le-ltb u t.header.high_start high,
          le-ltb (length t.values) 2 (omega (arith, least)),
        )
        refl

module _ {A : Type 0} (of_number : ℕ → Option A) (t : Parts A) (sound : parts_fault of_number t.header t.index t.values ≡ None) where
  -- The data have a whole block.
  pub values_at_least : 64 ≤ length t.values
  values_at_least =
      let whole = whole_of of_number t.header t.index t.values sound in
      data_at_least t.header.trie_type t.index (length t.values) whole.1 whole.0

  -- The block that a cell of the fast index names is inside the data.
  pub block_inside_data : (block offset : ℕ) → block < fast_index_len t.header.trie_type → slice_get t.index block ≡ Some offset
      → offset + 64 ≤ length t.values
  block_inside_data block offset less is =
      let whole = whole_of of_number t.header t.index t.values sound in
      block_inside t.header.trie_type t.index (length t.values) block offset whole.1 is less
