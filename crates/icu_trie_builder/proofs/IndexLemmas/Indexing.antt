-- Placing the blocks of 512, one after another.
use Rattle.std.proofs.Common.{◌≡◌, ◌≢◌, inl, inr, ℕ, ◌+◌, ◌-◌, ◌*◌, ◌/◌, ◌<◌, ◌≤◌, false, true, nat_lt, List, [], ◌∷◌, ◌++◌, length, get_or, take, refl, arith, ◌∙◌, sym, ap, subst, below_more, Some}
use Rattle.std.specs.List.{AllPass}
use Rattle.std.proofs.lemmas.Bool.{cases_lt, lt-ltb}
use Rattle.std.proofs.lemmas.Bool.Decides.{nat_tests}
use Rattle.std.proofs.lemmas.List.{length-append, get_or_append_left, get_or_at, get_or_default, take_all}
use Rattle.icu_trie_core.specs.Blocks.{block, count_different}
use Rattle.icu_trie_core.specs.Format.{offset_in_block}
use Rattle.icu_trie_builder.specs.Different.{count_different_but}
use Rattle.icu_trie_builder.specs.Inside.Compaction.Placed.{IsPlacedBlock, OccursNowhere}
use Rattle.icu_trie_builder.specs.Inside.Compaction.Windows.{IsLeast}
use Rattle.icu_trie_builder.specs.Inside.Index.Layout.{AllBelow}
use Rattle.icu_trie_builder.specs.Inside.Index.IndexParts.{packed_cells}
use Rattle.icu_trie_builder.specs.Inside.Index.Index3Cells.{IsIndex3Cell, IsIndex3Store, IsIndexed, IsPlacedOffsets, IsUnplaced}
use Rattle.icu_trie_builder.proofs.CompactionLemmas.Compacting.{count_different_but-le, count_different_but-mono, count_different_but-more}
use Rattle.icu_trie_builder.proofs.IndexLemmas.PackingLemmas.{offset_packed, packed-below, packed-len, packed-read}
use Rattle.icu_trie_builder.proofs.IndexLemmas.Shared.{short_block}
use Rattle.icu_trie_builder.proofs.CompactionLemmas.TableLemmas.{least-same, least-kept}
use Rattle.icu_trie_builder.proofs.CompactionLemmas.Windows.{length-window, window-read}

-- A test that expresses a bound.
pub below-all : (n : ℕ) (xs : List ℕ) → AllBelow n xs → AllPass (λ x. nat_lt x n) xs
below-all n xs below i d l = lt-ltb (get_or xs i d) n (omega (arith, get_or_default xs i d 0 l, below i l))

pub all-below : (n : ℕ) (xs : List ℕ) → AllPass (λ x. nat_lt x n) xs → AllBelow n xs
all-below n xs pass i l =
    let e : nat_lt (get_or xs i 0) n ≡ true = pass i 0 l in
    grind (arith, nat_tests, e)

-- A cell still names its block after cells are appended.
pub cell-kept : (start : ℕ) (fast stored stored' x : List ℕ) (cell : ℕ) → take (length stored) stored' ≡ stored
    → IsIndex3Cell start fast stored x cell → IsIndex3Cell start fast stored' x cell
unfolding IsIndex3Cell
cell-kept start fast stored stored' x cell h (inl a) = inl a
cell-kept start fast stored stored' x cell h (inr (inl a)) =
    inr
    (inl (record {
      below = a.below;
      nowhere = a.nowhere;
      from = a.from;
      low = a.low;
      place =
          least-kept 32 (cell - start) stored stored' x h a.place;
    }))
cell-kept start fast stored stored' x cell h (inr (inr a)) =
    inr
    (inr (record {
      wide = a.wide;
      from = a.from;
      place =
          least-kept 36 (cell - (0x8000 + start)) stored stored' (packed_cells x) h a.place;
    }))

-- A block has one cell.
pub cell-same : (start : ℕ) (fast stored x : List ℕ) (c d : ℕ) → IsIndex3Cell start fast stored x c → IsIndex3Cell start fast stored x d
    → c ≡ d
unfolding IsIndex3Cell
cell-same start fast stored x c d (inl a) (inl b) = least-same 32 c d fast x a.place b.place
cell-same start fast stored x c d (inl a) (inr (inl b)) = absurd (b.nowhere c a.place.here)
cell-same start fast stored x c d (inl a) (inr (inr b)) = absurd (b.wide a.below)
cell-same start fast stored x c d (inr (inl a)) (inl b) = absurd (a.nowhere d b.place.here)
cell-same start fast stored x c d (inr (inl a)) (inr (inl b)) =
    omega (arith, a.from, b.from, least-same 32 (c - start) (d - start) stored x a.place b.place)
cell-same start fast stored x c d (inr (inl a)) (inr (inr b)) = absurd (b.wide a.below)
cell-same start fast stored x c d (inr (inr a)) (inl b) = absurd (a.wide b.below)
cell-same start fast stored x c d (inr (inr a)) (inr (inl b)) = absurd (a.wide b.below)
cell-same start fast stored x c d (inr (inr a)) (inr (inr b)) =
    omega (arith, a.from, b.from, least-same 36 (c - (0x8000 + start)) (d - (0x8000 + start)) stored (packed_cells x) a.place b.place)

-- The 18-bit form of 32 offsets has 36 cells.
packed_is : (x : List ℕ) → length x ≡ 32 → length (packed_cells x) ≡ 36
packed_is x len = omega (arith, packed-len x, len)

module _ (start : ℕ) (fast x before : List ℕ) (store : IsIndex3Store start before) where
  -- A block that has a cell already.
  placed-there : (cell : ℕ) → IsIndex3Cell start fast before x cell → cell < 0x10000 → IsPlacedOffsets start fast x before before cell
  placed-there cell names below = record {
    names = names;
    below = below;
    store = store;
    kept = take_all (length before) before (omega arith);
    fresh = λ lt. absurd (omega (arith, lt));
    wide = omega arith;
    narrow = λ b. omega arith;
  }

  module _ (low : start < 0x7fff) (len : length x ≡ 32) where
    -- A block in the fast index.
    pub placed-fast : (at : ℕ) → length fast ≤ start → AllBelow 0x10000 x → IsLeast (length x) at fast x
        → IsPlacedOffsets start fast x before before at
    unfolding IsIndex3Cell
    placed-fast at few below least =
        placed-there at (inl (record { below = below; place = rw len at least })) (omega (arith, least.inside, few, low))

    -- A block that is placed as the cells y.
    placed-as : (y after : List ℕ) (at cell : ℕ) → length y ≤ 36 → (AllBelow 0x10000 x → length y ≤ 32) → AllBelow 0x10000 y
        → IsPlacedBlock (0x7ffe - start) y before after at → IsIndex3Cell start fast after x cell → cell < 0x10000
        → (OccursNowhere y before → IsUnplaced start fast before x) → IsPlacedOffsets start fast x before after cell
    placed-as y after at cell size narrow own placed names below fresh = record {
      names = names;
      below = below;
      store = record {
        fit = all-below 0x10000 after (placed.drawn (λ n. nat_lt n 0x10000) (below-all 0x10000 y own) (below-all 0x10000 before store.fit));
        room = omega (arith, placed.capped, size, store.room, low);
      };
      kept = placed.kept;
      fresh = λ lt. fresh (placed.grown lt).1;
      wide = grind (arith, placed.grown, size);
      narrow = λ b. grind (arith, placed.grown, narrow b);
    }

    -- A block in the 18-bit form.
    module _ (wide : AllBelow 0x10000 x → ⊥) where
      pub wide-unplaced : OccursNowhere (packed_cells x) before → IsUnplaced start fast before x
      unfolding IsUnplaced IsIndex3Cell
      wide-unplaced none c (inl a) = wide a.below
      wide-unplaced none c (inr (inl a)) = wide a.below
      wide-unplaced none c (inr (inr a)) = (rw (packed_is x len) at none) (c - (0x8000 + start)) a.place.here

      pub placed-wide : (at : ℕ) (after : List ℕ) → AllBelow 0x40000 x → IsPlacedBlock (0x7ffe - start) (packed_cells x) before after at
          → IsPlacedOffsets start fast x before after (0x8000 + start + at)
      unfolding IsIndex3Cell
      placed-wide at after fit placed =
          let size = packed_is x len in
          let is : at ≡ 0x8000 + start + at - (0x8000 + start) = omega arith in
          let least : IsLeast 36 at after (packed_cells x) = rw size at placed.least in
          placed-as (packed_cells x) after at (0x8000 + start + at) (omega (arith, size)) (λ b. absurd (wide b)) (packed-below x fit) placed
          (inr (inr (record { wide = wide; from = omega arith; place = subst (λ n. IsLeast 36 n after (packed_cells x)) is least })))
          (omega (arith, least.inside, placed.capped, size, store.room, low)) wide-unplaced

    -- A block of 16-bit offsets that is not in the fast index.
    module _ (below : AllBelow 0x10000 x) (nowhere : OccursNowhere x fast) where
      pub narrow-unplaced : OccursNowhere x before → IsUnplaced start fast before x
      unfolding IsUnplaced IsIndex3Cell
      narrow-unplaced none c (inl a) = (rw len at nowhere) c a.place.here
      narrow-unplaced none c (inr (inl a)) = (rw len at none) (c - start) a.place.here
      narrow-unplaced none c (inr (inr a)) = a.wide below

      -- Its first position is too high for a cell.
      pub narrow-high : (at : ℕ) (after : List ℕ) → IsPlacedBlock (0x7ffe - start) x before after at → 0x7fff ≤ start + at
          → (0x7fff ≤ start + length before) × IsUnplaced start fast before x
      unfolding IsUnplaced IsIndex3Cell
      narrow-high at after placed high = (omega (arith, placed.least.inside, placed.capped, len, high, low), never)
        where
          never : (c : ℕ) → IsIndex3Cell start fast before x c → ⊥
          never c (inl a) = (rw len at nowhere) c a.place.here
          never c (inr (inl a)) =
              let same = least-same 32 (c - start) at after x (least-kept 32 (c - start) before after x placed.kept a.place)
              (rw len at placed.least) in
              omega (arith, same, a.low, a.from, high)
          never c (inr (inr a)) = a.wide below

      pub placed-narrow : (at : ℕ) (after : List ℕ) → start + at < 0x7fff → IsPlacedBlock (0x7ffe - start) x before after at
          → IsPlacedOffsets start fast x before after (start + at)
      unfolding IsIndex3Cell
      placed-narrow at after under placed =
          let is : at ≡ start + at - start = omega arith in
          let least : IsLeast 32 at after x = rw len at placed.least in
          placed-as x after at (start + at) (omega (arith, len)) (λ b. omega (arith, len)) below placed
          (inr (inl (record {
            below = below;
            nowhere = rw len at nowhere;
            from = omega arith;
            low = under;
            place = subst (λ n. IsLeast 32 n after x) is least;
          }))) (omega (arith, under)) narrow-unplaced

-- The number of distinct blocks among the first j.
abbrev apart : List ℕ → ℕ → ℕ
apart offsets j = count_different_but (λ x. false) (block 32 offsets) 0 j

-- The first j blocks of 512 are placed.
pub record Indexing (start : ℕ) (fast offsets : List ℕ) (j : ℕ) (stored cells : List ℕ) : Type 0 where
  pub count : length cells ≡ j
  pub cell : (i : ℕ) → i < j → IsIndex3Cell start fast stored (block 32 offsets i) (get_or cells i 0)
  pub below : AllBelow 0x10000 cells
  pub store : IsIndex3Store start stored
  pub short : length stored ≤ 36 * apart offsets j
  pub tight : AllBelow 0x10000 offsets → length stored ≤ 32 * apart offsets j

module _ (start : ℕ) (fast offsets : List ℕ) (j : ℕ) (stored cells : List ℕ) (l : Indexing start fast offsets j stored cells)
    (fits : 32 * j + 32 ≤ length offsets) where
  -- A block that no cell names counts as a new one.
  indexing-fresh : IsUnplaced start fast stored (block 32 offsets j) → apart offsets j < apart offsets (j + 1)
  unfolding IsUnplaced
  indexing-fresh none = count_different_but-more (λ x. false)
      (block 32 offsets) 0 j refl (λ i lt e. by i lt (ap (block 32 offsets) (omega arith) ∙ (e ∙ ap (block 32 offsets) (omega arith))))
    where
      by : (i : ℕ) → i < j → block 32 offsets i ≡ block 32 offsets j → ⊥
      by i lt same = none (get_or cells i 0) (subst (λ x. IsIndex3Cell start fast stored x (get_or cells i 0)) same (l.cell i lt))

  -- If all offsets have 16 bits, so do those of each block.
  block-below : AllBelow 0x10000 offsets → AllBelow 0x10000 (block 32 offsets j)
  block-below below i lt =
      let len : length (block 32 offsets j) ≡ 32 = length-window 32 (32 * j) offsets fits in
      omega (arith, window-read 32 (32 * j) i offsets 0 (omega (arith, lt, len)), below (32 * j + i) (omega (arith, lt, len, fits)))

  -- One more block.
  pub indexing-step : (cell : ℕ) (stored' cells' : List ℕ) → IsPlacedOffsets start fast (block 32 offsets j) stored stored' cell
      → cells' ≡ cells ++ cell ∷ [] → Indexing start fast offsets (j + 1) stored' cells'
  indexing-step cell stored' cells' here is =
      let len : length cells' ≡ j + 1 = omega (arith, ap length is, length-append cells (cell ∷ []), l.count) in
      let old : (i : ℕ) → i < j → get_or cells' i 0 ≡ get_or cells i 0 =
      λ i lt. ap (λ xs. get_or xs i 0) is ∙ get_or_append_left cells (cell ∷ []) 0 i (omega (arith, lt, l.count)) in
      let new : get_or cells' j 0 ≡ cell = ap (λ xs. get_or xs j 0) is ∙ get_or_at cells cell [] 0 j l.count in
      let more : apart offsets j ≤ apart offsets (j + 1) =
      count_different_but-mono (λ x. false) (block 32 offsets) 0 j (j + 1) (omega arith) in
      record {
        count = len;
        cell = below_more (λ i. IsIndex3Cell start fast stored' (block 32 offsets i) (get_or cells' i 0)) j
            (λ i lt. rw (old i lt) (cell-kept start fast stored stored' (block 32 offsets i) (get_or cells i 0) here.kept (l.cell i lt)))
            (rw new here.names);
        below = λ i lt. below_more (λ i. get_or cells' i 0 < 0x10000) j
            (λ i lt. omega (arith, old i lt, l.below i (omega (arith, lt, l.count)))) (omega (arith, new, here.below)) i
            (omega (arith, lt, len));
        store = here.store;
        short = elim (cases_lt (length stored) (length stored')) [
          | inl lt ↦ omega (arith, indexing-fresh (here.fresh lt), here.wide, l.short)
          | inr ge ↦ omega (arith, ge, l.short, more)
        ];
        tight = λ below. elim (cases_lt (length stored) (length stored')) [
          | inl lt ↦ omega (arith, indexing-fresh (here.fresh lt), here.narrow (block-below below), l.tight below)
          | inr ge ↦ omega (arith, ge, l.tight below, more)
        ];
      }

  -- A block that equals the one before it.
  pub indexing-again : (cells' : List ℕ) → 0 < j → block 32 offsets j ≡ block 32 offsets (j - 1)
      → cells' ≡ cells ++ (get_or cells (j - 1) 0) ∷ [] → Indexing start fast offsets (j + 1) stored cells'
  indexing-again cells' some same is = indexing-step (get_or cells (j - 1) 0) stored cells'
      (placed-there start fast (block 32 offsets j) stored l.store (get_or cells (j - 1) 0) (rw same (l.cell (j - 1) (omega (arith, some))))
      (l.below (j - 1) (omega (arith, some, l.count)))) is

  -- A block is rejected.
  pub indexing-full : (m : ℕ) → j < m → IsUnplaced start fast stored (block 32 offsets j) → 0x7fff ≤ start + length stored
      → 0x7fff + 36 ≤ start + 36 * count_different (block 32 offsets) 0 m
  indexing-full m lt none over =
      let up = count_different_but-mono (λ x. false) (block 32 offsets) 0 (j + 1) m (omega (arith, lt)) in
      let all = count_different_but-le (λ x. false) (block 32 offsets) 0 m in
      omega (arith, indexing-fresh none, up, all, over, l.short)

-- A block of cells that are below a bound.
pub block-fit : (n k j : ℕ) (xs : List ℕ) → AllBelow n xs → k * j + k ≤ length xs → AllBelow n (block k xs j)
block-fit n k j xs below fits i lt =
    let len : length (block k xs j) ≡ k = length-window k (k * j) xs fits in
    omega (arith, window-read k (k * j) i xs 0 (omega (arith, lt, len)), below (k * j + i) (omega (arith, lt, len, fits)))

module _ (start : ℕ) (fast offsets stored index : List ℕ)
    (fit : AllBelow 0x40000 offsets) (low : start < 0x7fff) (few : length fast ≤ start) (room : start + length stored ≤ length index)
    (at_fast : (x : ℕ) → x < length fast → get_or index x 0 ≡ get_or fast x 0)
    (at_stored : (x : ℕ) → x < length stored → get_or index (start + x) 0 ≡ get_or stored x 0) where
  -- The cell of a block gives its offsets.
  pub cell-gives : (i p c : ℕ) → 32 * i + 32 ≤ length offsets → p < 32 → IsIndex3Cell start fast stored (block 32 offsets i) c
      → offset_in_block index c p ≡ Some (get_or offsets (32 * i + p) 0)
  unfolding IsIndex3Cell
  cell-gives i p c fits l (inl a) = short_block index offsets c i p l (omega (arith, a.place.inside, few, low))
      (omega (arith, a.place.inside, few, room))
      (λ q lt. at_fast (c + q) (omega (arith, lt, a.place.inside))
      ∙ (sym (window-read 32 c q fast 0 lt) ∙ (ap (λ xs. get_or xs q 0) a.place.here ∙ window-read 32 (32 * i) q offsets 0 lt)))
  cell-gives i p c fits l (inr (inl a)) = short_block index offsets c i p l (omega (arith, a.low))
      (omega (arith, a.place.inside, a.from, room))
      (λ q lt. ap (λ n. get_or index n 0) (omega (arith, a.from))
      ∙ (at_stored (c - start + q) (omega (arith, lt, a.place.inside)) ∙ (sym (window-read 32 (c - start) q stored 0 lt)
      ∙ (ap (λ xs. get_or xs q 0) a.place.here ∙ window-read 32 (32 * i) q offsets 0 lt))))
  cell-gives i p c fits l (inr (inr a)) =
      let o : ℕ = c - (0x8000 + start) in
      let x : List ℕ = block 32 offsets i in
      let len : length x ≡ 32 = length-window 32 (32 * i) offsets fits in
      let is : c ≡ 0x8000 + (start + o) = omega (arith, a.from) in
      ap (λ n. offset_in_block index n p) is ∙ (offset_packed index x (start + o) p l len (omega (arith, a.place.inside, room))
      (block-fit 0x40000 32 i offsets fit fits)
      (λ q lt. ap (λ n. get_or index n 0) (omega arith)
      ∙ (at_stored (o + q) (omega (arith, lt, a.place.inside))
      ∙ (sym (window-read 36 o q stored 0 lt) ∙ (ap (λ xs. get_or xs q 0) a.place.here
      ∙ packed-read x q 0 (omega (arith, lt, len))))))
      ∙ ap (λ n. Some n) (window-read 32 (32 * i) p offsets 0 l))

-- No cell is the one that stands for "no null block".
pub cell-never : (start : ℕ) (fast stored x : List ℕ) (c : ℕ) → start < 0x7fff → length fast ≤ start → IsIndex3Cell start fast stored x c
    → c ≢ 0x7fff
unfolding IsIndex3Cell
cell-never start fast stored x c low few (inl a) e = omega (arith, a.place.inside, few, low, e)
cell-never start fast stored x c low few (inr (inl a)) e = omega (arith, a.low, e)
cell-never start fast stored x c low few (inr (inr a)) e = omega (arith, a.from, e)

-- The bounds at the end.
pub indexing-short : (start : ℕ) (fast offsets : List ℕ) (j : ℕ) (stored cells : List ℕ) → Indexing start fast offsets j stored cells
    → length stored ≤ 36 * count_different (block 32 offsets) 0 j
indexing-short start fast offsets j stored cells l = omega (arith, l.short, count_different_but-le (λ x. false) (block 32 offsets) 0 j)

pub indexing-tight : (start : ℕ) (fast offsets : List ℕ) (j : ℕ) (stored cells : List ℕ) → Indexing start fast offsets j stored cells
    → AllBelow 0x10000 offsets
    → length stored ≤ 32 * count_different (block 32 offsets) 0 j
indexing-tight start fast offsets j stored cells l below =
    omega (arith, l.tight below, count_different_but-le (λ x. false) (block 32 offsets) 0 j)
