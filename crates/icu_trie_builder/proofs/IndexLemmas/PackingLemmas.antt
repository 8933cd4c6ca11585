-- The 18-bit form gives the offsets back.
use Rattle.std.proofs.Common.{◌≡◌, ℕ, ◌+◌, ◌-◌, ◌*◌, ◌/◌, ◌%◌, ◌<◌, ◌≤◌, nat_eq, false, List, [], length, get_or, arith, sym, ap, ◌∙◌, Some, slice_get, zero, suc, refl}
use Rattle.std.proofs.lemmas.Bool.{le-ltb}
use Rattle.std.proofs.lemmas.Bool.Decides.{nat_tests}
use Rattle.std.proofs.lemmas.List.{same_lists, get_or_default}
use Rattle.std.proofs.lemmas.List.FromFn.{get_or-map-range_with_len, length-map-range_with_len}
use Rattle.icu_trie_core.specs.Format.{long_offset, offset_in_block}
use Rattle.icu_trie_builder.specs.Inside.Index.Layout.{AllBelow}
use Rattle.icu_trie_builder.specs.Inside.Index.IndexParts.{IsGrown, high_bits, packed_cell, packed_cells}
use Rattle.icu_trie_builder.proofs.IndexLemmas.Growing.{cell_there}

-- The two high bits and the 16 low ones are the offset.
long_back : (xs : List ℕ) (at q : ℕ) → at + 8 ≤ length xs → AllBelow 0x40000 xs → q < 8
    → long_offset (high_bits xs at) (get_or xs (at + q) 0 % 65536) q ≡ get_or xs (at + q) 0
unfolding high_bits
long_back xs at q room fit l = by q l
  where
    f : (i : ℕ) → i < 8 → get_or xs (at + i) 0 < 262144
    f i l = fit (at + i) (omega (arith, l, room))

    z : get_or xs (at + 0) 0 ≡ get_or xs at 0
    z = ap (λ n. get_or xs n 0) (omega arith)

    f0 : get_or xs at 0 < 262144
    f0 = fit at (omega (arith, room))

    by : (q : ℕ) → q < 8 → long_offset (high_bits xs at) (get_or xs (at + q) 0 % 65536) q ≡ get_or xs (at + q) 0
    by zero l = omega (
      arith,
      z,
      f0,
      f 1 (omega arith),
      f 2 (omega arith),
      f 3 (omega arith),
      f 4 (omega arith),
      f 5 (omega arith),
      f 6 (omega arith),
      f 7 (omega arith),
    )
    by (suc zero) l = omega (
      arith,
      f0,
      f 1 (omega arith),
      f 2 (omega arith),
      f 3 (omega arith),
      f 4 (omega arith),
      f 5 (omega arith),
      f 6 (omega arith),
      f 7 (omega arith),
    )
    by (suc (suc zero)) l = omega (
      arith,
      f 2 (omega arith),
      f 3 (omega arith),
      f 4 (omega arith),
      f 5 (omega arith),
      f 6 (omega arith),
      f 7 (omega arith),
    )
    by (suc (suc (suc zero))) l = omega (
      arith,
      f 3 (omega arith),
      f 4 (omega arith),
      f 5 (omega arith),
      f 6 (omega arith),
      f 7 (omega arith),
    )
    by (suc (suc (suc (suc zero)))) l = omega (arith, f 4 (omega arith), f 5 (omega arith), f 6 (omega arith), f 7 (omega arith))
    by (suc (suc (suc (suc (suc zero))))) l = omega (arith, f 5 (omega arith), f 6 (omega arith), f 7 (omega arith))
    by (suc (suc (suc (suc (suc (suc zero)))))) l = omega (arith, f 6 (omega arith), f 7 (omega arith))
    by (suc (suc (suc (suc (suc (suc (suc zero))))))) l = omega (arith, f 7 (omega arith))
    by (suc (suc (suc (suc (suc (suc (suc (suc n)))))))) l = absurd (omega (arith, l))

-- A cell of high bits.
pub cell_high : (xs : List ℕ) (g i : ℕ) → i ≡ 9 * g → packed_cell xs i ≡ high_bits xs (8 * g)
unfolding packed_cell
cell_high xs g i e =
    let z : i % 9 ≡ 0 = omega (arith, e) in
    let a : 8 * (i / 9) ≡ 8 * g = omega (arith, e) in
    rw (z, a) refl

not_zero : (n q : ℕ) → n ≡ suc q → nat_eq n 0 ≡ false
not_zero n q e = grind (arith, nat_tests, e)

-- A cell of low bits.
pub cell_low : (xs : List ℕ) (g q i : ℕ) → q < 8 → i ≡ 9 * g + 1 + q → packed_cell xs i ≡ get_or xs (8 * g + q) 0 % 65536
unfolding packed_cell
cell_low xs g q i l e =
    let z : i % 9 ≡ suc q = omega (arith, e, l) in
    let a : 8 * (i / 9) + i % 9 - 1 ≡ 8 * g + q = omega (arith, e, l) in
    rw (not_zero (i % 9) q z, a) refl

-- The high bits of eight offsets fit a cell.
high-below : (xs : List ℕ) (at : ℕ) → at + 8 ≤ length xs → AllBelow 0x40000 xs → high_bits xs at < 65536
unfolding high_bits
high-below xs at room fit = omega (
  arith,
  fit at (omega (arith, room)),
  fit (at + 1) (omega (arith, room)),
  fit (at + 2) (omega (arith, room)),
  fit (at + 3) (omega (arith, room)),
  fit (at + 4) (omega (arith, room)),
  fit (at + 5) (omega (arith, room)),
  fit (at + 6) (omega (arith, room)),
  fit (at + 7) (omega (arith, room)),
)

-- The 18-bit form, cell by cell.
pub packed-len : (xs : List ℕ) → length (packed_cells xs) ≡ 9 * (length xs / 8)
unfolding packed_cells
packed-len xs = length-map-range_with_len (packed_cell xs) 0 (9 * (length xs / 8))

pub packed-read : (xs : List ℕ) (i d : ℕ) → i < 9 * (length xs / 8) → get_or (packed_cells xs) i d ≡ packed_cell xs i
unfolding packed_cells
packed-read xs i d l = get_or-map-range_with_len (packed_cell xs) 0 (9 * (length xs / 8)) i i d l (omega arith)

-- Cells that equal those of the 18-bit form.
pub packed-all : (xs ys : List ℕ) → IsGrown (9 * (length xs / 8)) (packed_cell xs) [] ys → ys ≡ packed_cells xs
packed-all xs ys g =
    let len : length ys ≡ 9 * (length xs / 8) = omega (arith, g.len) in
    same_lists ys (packed_cells xs) (len ∙ sym (packed-len xs))
    (λ i d l. get_or_default ys i d 0 l ∙ (ap (λ n. get_or ys n 0) (omega arith)
    ∙ (g.more i (omega (arith, l, len)) ∙ sym (packed-read xs i d (omega (arith, l, len))))))

-- The cells of the 18-bit form have 16 bits.
pub packed-below : (small : List ℕ) → AllBelow 0x40000 small → AllBelow 0x10000 (packed_cells small)
packed-below small fit i l = by (i % 9) refl
  where
    lt : i < 9 * (length small / 8)
    lt = omega (arith, l, packed-len small)

    cell : get_or (packed_cells small) i 0 ≡ packed_cell small i
    cell = packed-read small i 0 lt

    by : (r : ℕ) → i % 9 ≡ r → get_or (packed_cells small) i 0 < 0x10000
    by zero e = omega (arith, cell, cell_high small (i / 9) i (omega (arith, e)), high-below small (8 * (i / 9)) (omega (arith, lt)) fit)
    by (suc r) e = omega (arith, cell, cell_low small (i / 9) r i (omega (arith, e)) (omega (arith, e)))

-- An index-3 block with the 36 cells of 32 offsets gives these offsets.
pub offset_packed : (index small : List ℕ) (at p : ℕ) → p < 32 → length small ≡ 32 → at + 36 ≤ length index → AllBelow 0x40000 small
    → ((x : ℕ) → x < 36 → get_or index (at + x) 0 ≡ packed_cell small x)
    → offset_in_block index (0x8000 + at) p ≡ Some (get_or small p 0)
offset_packed index small at p l room inside fit cells =
    let g : ℕ = p / 8 in
    let q : ℕ = p % 8 in
    let group : ℕ = 0x8000 + at - 0x8000 + 9 * (p / 8) in
    let high : slice_get index group ≡ Some (high_bits small (8 * g)) =
    cell_there index group (high_bits small (8 * g)) (omega (arith, l, inside))
    (ap (λ n. get_or index n 0) (omega arith) ∙ (cells (9 * (p / 8)) (omega (arith, l)) ∙ cell_high small g (9 * (p / 8)) (omega arith))) in
    let low : slice_get index (group + 1 + p % 8) ≡ Some (get_or small (8 * g + q) 0 % 65536) =
    cell_there index (group + 1 + p % 8) (get_or small (8 * g + q) 0 % 65536) (omega (arith, l, inside))
    (ap (λ n. get_or index n 0) (omega arith)
    ∙ (cells (9 * (p / 8) + 1 + p % 8) (omega (arith, l)) ∙ cell_low small g q (9 * (p / 8) + 1 + p % 8) (omega arith) (omega arith))) in
    let back = long_back small (8 * g) q (omega (arith, l, room)) fit (omega arith) in
    let there : get_or small (8 * g + q) 0 ≡ get_or small p 0 = ap (λ n. get_or small n 0) (omega arith) in
    rw (le-ltb (0x8000 + at) 0x8000 (omega arith), high, low) (ap (λ n. Some n) (back ∙ there))
