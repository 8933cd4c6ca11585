-- The look-up result in each part of a trie.
use Rattle.std.proofs.Common.{◌≡◌, ◌⊎◌, inl, inr, ◌+◌, ◌*◌, ◌/◌, ◌%◌, ◌<◌, ◌≤◌, ℕ, List, slice_get, Option, Some, None, arith, refl}
use Rattle.std.proofs.lemmas.Bool.{lt-ltb, le-ltb}
use Rattle.std.specs.Option.{option_len}
use Rattle.icu_trie_core.specs.Contents.{contents_of}
use Rattle.icu_trie_core.specs.Format.{answer, fast_limit, index2_cell, offset_in_block, small_offset}
use Rattle.icu_trie_core.specs.declared.header.TrieType.{TrieType}
use Rattle.icu_trie_core.specs.declared.header.TrieType.TheVariants.{Fast, Small}
use Rattle.icu_trie_core.specs.declared.header.CodePointTrieHeader.{CodePointTrieHeader}

pub none_or_some : {A : Type 0} (o : Option A) → (o ≡ None) ⊎ ((x : A) × (o ≡ Some x))
none_or_some None = inl refl
none_or_some (Some x) = inr (x, refl)

pub option_len_most : {A : Type 0} (o : Option A) → option_len o ≤ 1
option_len_most None = omega arith
option_len_most (Some x) = omega arith

pub fast_limit_most : (kind : TrieType) → (fast_limit kind ≤ 65536) × (fast_limit kind % 512 ≡ 0)
fast_limit_most Fast = (omega arith, refl)
fast_limit_most Small = (omega arith, refl)

module _ {A : Type 0} (h : CodePointTrieHeader) (index : List ℕ) (values : List A) (u : ℕ) where
  pub fast_answer : (offset : ℕ) → u < 1114112 → u < fast_limit h.trie_type → slice_get index (u / 64) ≡ Some offset
      → answer h (contents_of index values) u ≡ slice_get values (offset + u % 64)
  unfolding answer
  fast_answer offset within below is = rw (le-ltb 1114111 u (omega (arith, within)), lt-ltb u (fast_limit h.trie_type) below, is) refl

  pub fast_none : u < 1114112 → u < fast_limit h.trie_type → slice_get index (u / 64) ≡ None → answer h (contents_of index values) u ≡ None
  unfolding answer
  fast_none within below is = rw (le-ltb 1114111 u (omega (arith, within)), lt-ltb u (fast_limit h.trie_type) below, is) refl

  pub small_answer : (offset : ℕ) → u < 1114112 → fast_limit h.trie_type ≤ u → u < h.high_start
      → small_offset h.trie_type index u ≡ Some offset → answer h (contents_of index values) u ≡ slice_get values (offset + u % 16)
  unfolding answer
  small_answer offset within from below is =
      rw (le-ltb 1114111 u (omega (arith, within)), le-ltb u (fast_limit h.trie_type) from, lt-ltb u h.high_start below, is) refl

  pub small_none : u < 1114112 → fast_limit h.trie_type ≤ u → u < h.high_start → small_offset h.trie_type index u ≡ None
      → answer h (contents_of index values) u ≡ None
  unfolding answer
  small_none within from below is =
      rw (le-ltb 1114111 u (omega (arith, within)), le-ltb u (fast_limit h.trie_type) from, lt-ltb u h.high_start below, is) refl

-- The data offset at a position in a block of 512.
pub small_offset_at : (kind : TrieType) (index : List ℕ) (base block i : ℕ) → base % 512 ≡ 0 → i < 512
    → index2_cell kind index base ≡ Some block
    → small_offset kind index (base + i) ≡ offset_in_block index block (i / 16)
unfolding small_offset
small_offset_at kind index base block i aligned in_block two =
    let a : (base + i) / 512 ≡ base / 512 = omega arith in
    let b : (base + i) / 16384 ≡ base / 16384 = omega arith in
    let c : (base + i) / 16 % 32 ≡ i / 16 = omega arith in
    rw (a, b, c, two) refl

-- The data offset of a code point, from the index-2 cell of its block of 512.
pub small_offset_in : (kind : TrieType) (index : List ℕ) (c block : ℕ) → index2_cell kind index (c / 512 * 512) ≡ Some block
    → small_offset kind index c ≡ offset_in_block index block (c % 512 / 16)
unfolding small_offset
small_offset_in kind index c block two =
    let a : c / 512 * 512 / 512 ≡ c / 512 = omega arith in
    let b : c / 512 * 512 / 16384 ≡ c / 16384 = omega arith in
    let p : c / 16 % 32 ≡ c % 512 / 16 = omega arith in
    let here : index2_cell kind index c ≡ Some block = rw (a, b) at two in
    rw (here, p) refl

pub small_offset_missing : (kind : TrieType) (index : List ℕ) (c : ℕ) → index2_cell kind index (c / 512 * 512) ≡ None
    → small_offset kind index c ≡ None
unfolding small_offset
small_offset_missing kind index c none =
    let a : c / 512 * 512 / 512 ≡ c / 512 = omega arith in
    let b : c / 512 * 512 / 16384 ≡ c / 16384 = omega arith in
    let here : index2_cell kind index c ≡ None = rw (a, b) at none in
    rw here refl

pub small_offset_none : (kind : TrieType) (index : List ℕ) (base : ℕ) → index2_cell kind index base ≡ None
    → small_offset kind index base ≡ None
unfolding small_offset
small_offset_none kind index base none = rw none refl
