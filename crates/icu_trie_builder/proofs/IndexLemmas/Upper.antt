-- Index-1, and the index-3 and index-2 blocks after it.
use Rattle.std.proofs.Common.{◌≡◌, ◌≢◌, ℕ, ◌+◌, ◌-◌, ◌*◌, ◌/◌, ◌%◌, ◌<◌, ◌≤◌, List, length, get_or, take, arith, sym, ap, subst, ◌∙◌, Some}
use Rattle.std.specs.Int.{div_ceil}
use Rattle.std.proofs.lemmas.List.{get_or-take, length-take}
use Rattle.icu_trie_core.specs.Blocks.{block}
use Rattle.icu_trie_core.specs.declared.header.TrieType.{TrieType}
use Rattle.icu_trie_core.specs.Format.{fast_limit, offset_in_block}
use Rattle.icu_trie_builder.specs.Inside.Index.Layout.{AllBelow, GivesSmall, IsNullIndex}
use Rattle.icu_trie_builder.specs.Inside.Index.IndexParts.{Index2At, IsGrown, IsNullCell, IsUpper}
use Rattle.icu_trie_builder.specs.Inside.Index.Index3Cells.{IsIndex3Cell, IsIndexed}
use Rattle.icu_trie_builder.proofs.IndexLemmas.Indexing.{cell-gives, cell-never, cell-same}
use Rattle.icu_trie_builder.proofs.IndexLemmas.Laying.{parts}
use Rattle.icu_trie_builder.proofs.IndexLemmas.NullIndex.{null_index-by}
use Rattle.icu_trie_builder.proofs.IndexLemmas.Shared.{cell_by, gives_by}

module _ (t : TrieType) (high blocks start z : ℕ) (small stored3 stored numbers cells places a b e : List ℕ)
    (aligned : high % 512 ≡ 0) (above : fast_limit t < high) (within : high ≤ 1114112)
    (len_small : length small ≡ (high - fast_limit t) / 16) (fit : AllBelow 0x40000 small) (len_a : length a ≡ fast_limit t / 64)
    (is_blocks : blocks ≡ div_ceil high 0x4000 - fast_limit t / 0x4000) (is_start : start ≡ fast_limit t / 64 + blocks)
    (is_z : z ≡ fast_limit t % 0x4000 / 512)
    (ix : IsIndexed start a small stored3 numbers) (count : length numbers ≡ length small / 32)
    (len_cells : length cells ≡ z + length numbers) (at_cells : (i : ℕ) → i < length numbers → get_or cells (z + i) 0 ≡ get_or numbers i 0)
    (kept : take (length stored3) stored ≡ stored3) (placed : Index2At cells stored places)
    (places_count : length places ≡ div_ceil (length cells) 32)
    (g1 : IsGrown (length places) (λ j. start + get_or places j 0) a b) (g2 : IsGrown (length stored) (λ i. get_or stored i 0) b e) where
  len_blocks : length places ≡ blocks
  len_blocks =
      let p = parts t in
      omega (arith, places_count, len_cells, count, len_small, aligned, above, is_blocks, is_z, p.1)

  len_b : length b ≡ start
  len_b = omega (arith, g1.len, len_a, is_start, len_blocks)

  low : start < 0x7fff
  low =
      let p = parts t in
      omega (arith, is_start, is_blocks, within, p.2)

  at_one : (j : ℕ) → j < blocks → get_or e (fast_limit t / 64 + j) 0 ≡ start + get_or places j 0
  at_one j l = g2.kept (fast_limit t / 64 + j) (omega (arith, len_b, is_start, l))
      ∙ (ap (λ n. get_or b n 0) (omega (arith, len_a)) ∙ g1.more j (omega (arith, l, len_blocks)))

  one : (j : ℕ) → j < div_ceil high 0x4000 - fast_limit t / 0x4000 → fast_limit t / 64 + j < length e
  one j l = omega (arith, l, is_blocks, is_start, len_b, g2.len)

  two : (j q : ℕ) → q < 32 → fast_limit t / 512 ≤ 32 * (fast_limit t / 0x4000 + j) + q → 32 * (fast_limit t / 0x4000 + j) + q < high / 512
      → (get_or e (fast_limit t / 64 + j) 0 + q < length e)
      × (get_or e (get_or e (fast_limit t / 64 + j) 0 + q) 0 ≡ get_or numbers (32 * (fast_limit t / 0x4000 + j) + q - fast_limit t / 512) 0)
  two j q lq from below =
      let p = parts t in
      let inside : 32 * j + q < length cells = omega (arith, len_cells, count, len_small, aligned, above, is_z, p.1, from, below) in
      let lj : j < blocks = omega (arith, inside, len_blocks, places_count) in
      let first = at_one j lj in
      let pl = placed j q lq inside in
      let i : ℕ = 32 * j + q - z in
      let zi : 32 * j + q ≡ z + i = omega (arith, is_z, p.1, from) in
      let ni : i ≡ 32 * (fast_limit t / 0x4000 + j) + q - fast_limit t / 512 = omega (arith, is_z, p.1, from) in (
        omega (arith, first, pl.0, g2.len, len_b),
        ap (λ n. get_or e n 0) (omega (arith, first, len_b)) ∙ (g2.more (get_or places j 0 + q) pl.0 ∙ (pl.1
            ∙ (ap (λ n. get_or cells n 0) zi ∙ (at_cells i (omega (arith, zi, inside, len_cells)) ∙ ap (λ n. get_or numbers n 0) ni)))),
      )

  shorter : length stored3 ≤ length stored
  shorter = omega (arith, ap length kept, length-take (length stored3) stored)

  at_stored : (x : ℕ) → x < length stored3 → get_or e (start + x) 0 ≡ get_or stored3 x 0
  at_stored x l = ap (λ n. get_or e n 0) (omega (arith, len_b))
      ∙ (g2.more x (omega (arith, l, shorter)) ∙ (sym (get_or-take (length stored3) stored x 0 l) ∙ ap (λ xs. get_or xs x 0) kept))

  at_fast : (x : ℕ) → x < length a → get_or e x 0 ≡ get_or a x 0
  at_fast x l = g2.kept x (omega (arith, l, g1.len)) ∙ g1.kept x l

  in_numbers : (i : ℕ) → i < (high - fast_limit t) / 512 → (i < length numbers) × (32 * i + 32 ≤ length small)
  in_numbers i l = (omega (arith, l, count, len_small), omega (arith, l, len_small))

  gives : (i p : ℕ) → i < (high - fast_limit t) / 512 → p < 32
      → offset_in_block e (get_or numbers i 0) p ≡ Some (get_or small (32 * i + p) 0)
  gives i p li lp =
      let w = in_numbers i li in
      cell-gives start a small stored3 e fit low (omega (arith, len_a, is_start))
      (omega (arith, len_b, g2.len, shorter)) at_fast at_stored i p (get_or numbers i 0) w.1 lp (ix.cell i w.0)

  alike : (i j : ℕ) → i < (high - fast_limit t) / 512 → j < (high - fast_limit t) / 512 → block 32 small i ≡ block 32 small j
      → get_or numbers i 0 ≡ get_or numbers j 0
  alike i j li lj same =
      let w = in_numbers i li in
      let v = in_numbers j lj in
      cell-same start a stored3 (block 32 small j) (get_or numbers i 0) (get_or numbers j 0)
      (subst (λ x. IsIndex3Cell start a stored3 x (get_or numbers i 0)) same (ix.cell i w.0)) (ix.cell j v.0)

  never : (i : ℕ) → i < (high - fast_limit t) / 512 → get_or numbers i 0 ≢ 0x7fff
  never i l = cell-never start a stored3 (block 32 small i) (get_or numbers i 0) low (omega (arith, len_a, is_start))
      (ix.cell i (in_numbers i l).0)

  gives_all : GivesSmall t high small e
  gives_all = gives_by t high small e (λ i. get_or numbers i 0) aligned one two gives alike never

  upper : IsUpper t high small a e
  upper = record {
    kept = at_fast;
    longer = omega (arith, g1.len, g2.len);
    gives = gives_all;
  }

  upper_null : (null cell : ℕ) → IsNullCell null small (λ i. get_or numbers i 0) cell → IsNullIndex t high null small e cell
  upper_null null cell is = null_index-by t high null small e aligned len_small gives_all (λ i. get_or numbers i 0) cell
      (cell_by t high small e (λ i. get_or numbers i 0) aligned one two gives alike never) is

  pub both : (null cell : ℕ) → IsNullCell null small (λ i. get_or numbers i 0) cell
      → IsUpper t high small a e × IsNullIndex t high null small e cell
  both null cell is = (upper, upper_null null cell is)
