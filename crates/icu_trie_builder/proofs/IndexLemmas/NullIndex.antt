-- The index-2 cell of the blocks of 512 that are null throughout.
use Rattle.std.proofs.Common.{◌≡◌, ℕ, ◌+◌, ◌-◌, ◌*◌, ◌/◌, ◌%◌, ◌<◌, ◌≤◌, inl, inr, List, length, get_or, arith, sym, ap, ◌∙◌, refl, Some}
use Rattle.std.proofs.lemmas.List.{same_lists, get_or_default}
use Rattle.std.proofs.lemmas.Option.{same_Some}
use Rattle.icu_trie_core.specs.Blocks.{block}
use Rattle.icu_trie_core.specs.declared.header.TrieType.{TrieType}
use Rattle.icu_trie_core.specs.Format.{fast_limit, index2_cell, small_offset, offset_in_block}
use Rattle.icu_trie_builder.specs.Inside.Index.Layout.{GivesSmall, IsNullBlock, IsNullIndex}
use Rattle.icu_trie_builder.specs.Inside.Index.IndexParts.{IsNullCell}
use Rattle.icu_trie_builder.proofs.IndexLemmas.Laying.{parts}
use Rattle.icu_trie_builder.proofs.CompactionLemmas.Windows.{length-window, window-read}

-- The index-2 cell of a block of 512 gives each of its 32 offsets.
pub offset_of : (t : TrieType) (index : List ℕ) (b q cell : ℕ) → q < 32 → index2_cell t index (b * 512) ≡ Some cell
    → small_offset t index (b * 512 + 16 * q) ≡ offset_in_block index cell q
unfolding small_offset
offset_of t index b q cell l two =
    let e1 : (b * 512 + 16 * q) / 0x4000 ≡ b * 512 / 0x4000 = omega (arith, l) in
    let e2 : (b * 512 + 16 * q) / 0x200 % 32 ≡ b * 512 / 0x200 % 32 = omega (arith, l) in
    let e3 : (b * 512 + 16 * q) / 16 % 32 ≡ q = omega (arith, l) in
    rw (e1, e2, two, e3) refl

-- Two blocks whose 32 offsets all are null are equal.
pub null-blocks : (null : ℕ) (small : List ℕ) (i j : ℕ) → 32 * i + 32 ≤ length small → 32 * j + 32 ≤ length small → IsNullBlock null small i
    → IsNullBlock null small j → block 32 small i ≡ block 32 small j
null-blocks null small i j fits fits' a b =
    let li : length (block 32 small i) ≡ 32 = length-window 32 (32 * i) small fits in
    let lj : length (block 32 small j) ≡ 32 = length-window 32 (32 * j) small fits' in
    same_lists (block 32 small i) (block 32 small j) (li ∙ sym lj)
    (λ q d l.
    let lt : q < 32 = omega (arith, l, li) in
    window-read 32 (32 * i) q small d lt ∙ (get_or_default small (32 * i + q) d 0 (omega (arith, fits, lt)) ∙ (a q lt ∙ (sym (b q lt)
    ∙ (get_or_default small (32 * j + q) 0 d (omega (arith, fits', lt)) ∙ sym (window-read 32 (32 * j) q small d lt))))))

module _ (t : TrieType) (high null : ℕ) (small index : List ℕ) (aligned : high % 512 ≡ 0) (len : length small ≡ (high - fast_limit t) / 16)
    (g : GivesSmall t high small index) where
  -- Offset number q of a block of 512 with this cell.
  offset_is : (b q cell : ℕ) → q < 32 → fast_limit t ≤ b * 512 → b * 512 < high → index2_cell t index (b * 512) ≡ Some cell
      → offset_in_block index cell q ≡ Some (get_or small (32 * (b - fast_limit t / 512) + q) 0)
  offset_is b q cell l from below two =
      let p = parts t in
      sym (offset_of t index b q cell l two) ∙ (g.on_small (b * 512 + 16 * q) (omega (arith, from)) (omega (arith, below, aligned, l))
      ∙ ap (λ n. Some (get_or small n 0)) (omega (arith, p.1, from, l)))

  -- The cell of such a block.
  pub null_index : (w cell : ℕ) → w < length small / 32 → IsNullBlock null small w
      → index2_cell t index ((w + fast_limit t / 512) * 512) ≡ Some cell → IsNullIndex t high null small index cell
  null_index w cell lt all two =
      let p = parts t in
      let d : ℕ = w + fast_limit t / 512 in
      let wd : d - fast_limit t / 512 ≡ w = omega arith in
      let d0 : fast_limit t ≤ d * 512 = omega (arith, p.1) in
      let d1 : d * 512 < high = omega (arith, lt, len, p.1, aligned) in
      record {
        has = λ b from below null_b.
            let fits : 32 * (b - fast_limit t / 512) + 32 ≤ length small = omega (arith, from, below, aligned, len, p.1) in
            let same = null-blocks null small (b - fast_limit t / 512)
            (d - fast_limit t / 512) fits (omega (arith, lt)) null_b (rw wd all) in
            g.on_cells b d from below d0 d1 same ∙ two;
        only = λ b from below is q l.
            let one = same_Some (get_or small (32 * (b - fast_limit t / 512) + q) 0) (get_or small (32 * (d - fast_limit t / 512) + q) 0)
            (sym (offset_is b q cell l from below is) ∙ offset_is d q cell l d0 d1 two) in
            one ∙ (ap (λ n. get_or small (32 * n + q) 0) wd ∙ all q l);
      }

  -- There is no such block.
  pub no_null_index : ((i : ℕ) → i < length small / 32 → IsNullBlock null small i → ⊥) → IsNullIndex t high null small index 0x7fff
  no_null_index none =
      let p = parts t in
      record {
        has = λ b from below all. absurd (none (b - fast_limit t / 512) (omega (arith, from, below, aligned, len, p.1)) all);
        only = λ b from below is. absurd (g.not_null (b * 512) from below is);
      }

  -- f gives each block of 512 its index-2 cell.
  pub null_index-by : (f : ℕ → ℕ) (cell : ℕ)
      → ((b : ℕ) → fast_limit t ≤ b * 512 → b * 512 < high → index2_cell t index (b * 512) ≡ Some (f (b - fast_limit t / 512)))
      → IsNullCell null small f cell → IsNullIndex t high null small index cell
  unfolding IsNullCell
  null_index-by f cell cells (inl w) =
      let p = parts t in
      let wd : w.0 + fast_limit t / 512 - fast_limit t / 512 ≡ w.0 = omega arith in
      null_index w.0 cell w.1 w.2 (cells (w.0 + fast_limit t / 512) (omega (arith, p.1)) (omega (arith, w.1, len, p.1, aligned))
      ∙ ap (λ n. Some n) (ap f wd ∙ sym w.3))
  null_index-by f cell cells (inr none) = rw none.0 (no_null_index none.1)
