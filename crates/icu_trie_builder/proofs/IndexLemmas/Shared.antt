-- What any layout of index-1, index-2 and index-3 has to provide.
use Rattle.std.proofs.Common.{◌≡◌, ◌≢◌, ℕ, ◌+◌, ◌-◌, ◌*◌, ◌/◌, ◌%◌, ◌<◌, ◌≤◌, List, [], length, get_or, arith, sym, ap, ◌∙◌, refl, Some, slice_get, unwrap_or}
use Rattle.std.proofs.lemmas.Bool.{lt-ltb}
use Rattle.std.proofs.lemmas.List.{same_lists, get_or_default}
use Rattle.std.specs.Int.{div_ceil}
use Rattle.icu_trie_core.specs.Blocks.{block}
use Rattle.icu_trie_core.specs.declared.header.TrieType.{TrieType}
use Rattle.icu_trie_core.specs.Format.{fast_limit, index1_start, index2_cell, small_offset, offset_in_block}
use Rattle.icu_trie_builder.specs.Inside.Index.Layout.{GivesSmall}
use Rattle.icu_trie_builder.specs.Inside.Index.IndexParts.{IsGrown}
use Rattle.icu_trie_builder.proofs.IndexLemmas.Growing.{cell_there}
use Rattle.icu_trie_builder.proofs.IndexLemmas.Laying.{parts}

-- An index-3 block of 32 cells that are the offsets themselves.
pub short_block : (index small : List ℕ) (at i p : ℕ) → p < 32 → at < 0x8000 → at + 32 ≤ length index
    → ((q : ℕ) → q < 32 → get_or index (at + q) 0 ≡ get_or small (32 * i + q) 0)
    → offset_in_block index at p ≡ Some (get_or small (32 * i + p) 0)
short_block index small at i p l low inside cells =
    rw (lt-ltb at 0x8000 low) (cell_there index (at + p) (get_or small (32 * i + p) 0) (omega (arith, inside, l)) (cells p l))

module _ (t : TrieType) (high : ℕ) (small index : List ℕ) (cell : ℕ → ℕ) (aligned : high % 512 ≡ 0)
    -- The index-1 cell of each 32 blocks of 512 is the position of their index-2 cells. Index-2
    -- cells outside the range are arbitrary.
    (one : (j : ℕ) → j < div_ceil high 0x4000 - fast_limit t / 0x4000 → fast_limit t / 64 + j < length index)
    (two : (j q : ℕ) → q < 32 → fast_limit t / 512 ≤ 32 * (fast_limit t / 0x4000 + j) + q
    → 32 * (fast_limit t / 0x4000 + j) + q < high / 512
    → (get_or index (fast_limit t / 64 + j) 0 + q < length index)
    × (get_or index (get_or index (fast_limit t / 64 + j) 0 + q) 0 ≡ cell (32 * (fast_limit t / 0x4000 + j) + q - fast_limit t / 512)))
    -- Each index-2 cell names a block that gives the 32 offsets, in either form.
    (gives : (i p : ℕ) → i < (high - fast_limit t) / 512 → p < 32 → offset_in_block index (cell i) p ≡ Some (get_or small (32 * i + p) 0))
    (alike : (i j : ℕ) → i < (high - fast_limit t) / 512 → j < (high - fast_limit t) / 512 → block 32 small i ≡ block 32 small j
    → cell i ≡ cell j)
    (never : (i : ℕ) → i < (high - fast_limit t) / 512 → cell i ≢ 0x7fff) where
  cell_at : (u : ℕ) → fast_limit t ≤ u → u < high → index2_cell t index u ≡ Some (cell (u / 512 - fast_limit t / 512))
  cell_at u from below =
      let p = parts t in
      let j : ℕ = u / 0x4000 - fast_limit t / 0x4000 in
      let q : ℕ = u / 0x200 % 32 in
      let start : ℕ = get_or index (fast_limit t / 64 + j) 0 in
      let there : slice_get index (u / 0x4000 + index1_start t) ≡ Some start = cell_there index (u / 0x4000 + index1_start t) start
      (let lj = one j (omega (arith, from, below)) in omega (arith, lj, p.0, from))
      (ap (λ n. get_or index n 0) (omega (arith, p.0, from))) in
      let w = two j q (omega arith) (omega (arith, from, p.1)) (omega (arith, from, below, aligned)) in
      let next : slice_get index (start + q) ≡ Some (cell (u / 512 - fast_limit t / 512)) =
      cell_there index (start + q) (cell (u / 512 - fast_limit t / 512)) w.0 (w.1 ∙ ap cell (omega (arith, from))) in
      rw (there, next) refl

  small_by : (u : ℕ) → fast_limit t ≤ u → u < high → small_offset t index u ≡ Some (get_or small (u / 16 - fast_limit t / 16) 0)
  unfolding small_offset
  small_by u from below =
      let p = parts t in
      rw (cell_at u from below) (gives (u / 512 - fast_limit t / 512) (u / 16 % 32) (omega (arith, from, below, aligned, p.1)) (omega arith)
      ∙ ap (λ n. Some (get_or small n 0)) (omega (arith, p.1, from)))

  -- The index-2 cell of a block of 512.
  pub cell_by : (b : ℕ) → fast_limit t ≤ b * 512 → b * 512 < high → index2_cell t index (b * 512) ≡ Some (cell (b - fast_limit t / 512))
  cell_by b from below = cell_at (b * 512) from below ∙ ap (λ n. Some (cell n)) (omega arith)

  pub gives_by : GivesSmall t high small index
  gives_by = record {
    on_small = small_by;
    on_cells = λ b d b0 b1 d0 d1 same.
        let p = parts t in
        cell_by b b0 b1
        ∙ (ap (λ n. Some n) (alike (b - fast_limit t / 512) (d - fast_limit t / 512) (omega (arith, b0, b1, aligned, p.1))
        (omega (arith, d0, d1, aligned, p.1)) same) ∙ sym (cell_by d d0 d1));
    not_null = λ u from below is.
        let p = parts t in
        never (u / 512 - fast_limit t / 512) (omega (arith, from, below, aligned, p.1))
        (ap (λ o. unwrap_or o 0) (sym (cell_at u from below) ∙ is));
  }

-- An empty list to which all cells of another one were appended.
pub grown-all : (xs ys : List ℕ) → IsGrown (length xs) (λ i. get_or xs i 0) [] ys → ys ≡ xs
grown-all xs ys g = same_lists ys xs (omega (arith, g.len))
    (λ i d l. get_or_default ys i d 0 l ∙ (ap (λ n. get_or ys n 0) (omega arith)
    ∙ (g.more i (omega (arith, l, g.len)) ∙ get_or_default xs i 0 d (omega (arith, l, g.len)))))
