-- Index-2 blocks, of which the last may be shorter.
use Rattle.std.proofs.Common.{◌≡◌, ℕ, ◌+◌, ◌-◌, ◌*◌, ◌/◌, ◌%◌, ◌<◌, ◌≤◌, true, nat_lt, inl, inr, List, [], ◌∷◌, ◌++◌, length, get_or, take, drop, arith, refl, sym, ap, ◌∙◌}
use Rattle.std.specs.List.{AllPass}
use Rattle.std.proofs.lemmas.Bool.{cases_lt}
use Rattle.std.proofs.lemmas.List.{get_or-take, get_or_append_left, get_or_at, length-append, length-drop, length-take, take-take}
use Rattle.std.proofs.lemmas.List.Elements.{All-take, All-drop}
use Rattle.icu_trie_core.specs.Blocks.{block}
use Rattle.icu_trie_builder.specs.Inside.Index.Layout.{AllBelow}
use Rattle.icu_trie_builder.specs.Inside.Index.IndexParts.{Index2At, IsIndex2}
use Rattle.icu_trie_builder.specs.Inside.Compaction.Placed.{IsPlaced, IsPlacedBlock}
use Rattle.icu_trie_builder.specs.Inside.Compaction.Windows.{IsLeast}
use Rattle.icu_trie_builder.proofs.IndexLemmas.Indexing.{all-below, below-all}
use Rattle.icu_trie_builder.proofs.CompactionLemmas.Windows.{window-read}

-- If the cells of the blocks and the cells before them are below a bound, so are the cells after
-- placing the blocks.
drawn-fit : (n k : ℕ) (xs before ys offsets : List ℕ) → IsPlaced k 0 (block k xs) before ys offsets → AllBelow n before → AllBelow n xs
    → AllBelow n ys
drawn-fit n k xs before ys offsets placed old below =
    let P : ℕ → Type 0 = λ x. nat_lt x n ≡ true in
    let all : AllPass (λ x. nat_lt x n) xs = below-all n xs below in
    all-below n ys (placed.drawn (λ x. nat_lt x n) (λ j h. All-take P k (drop (k * (0 + j)) xs) (All-drop P (k * (0 + j)) xs all))
    (below-all n before old))

-- A cell in a tail of a slice.
tail-read : (xs : List ℕ) (at q : ℕ) → at + q < length xs → get_or (take (length xs - at) (drop at xs)) q 0 ≡ get_or xs (at + q) 0
tail-read xs at q l = window-read (length xs - at) at q xs 0 (omega (arith, l))

-- A bound for all cells in a tail of a slice.
tail-below : (n at : ℕ) (xs : List ℕ) → AllBelow n xs → AllBelow n (take (length xs - at) (drop at xs))
tail-below n at xs below =
    let P : ℕ → Type 0 = λ x. nat_lt x n ≡ true in
    all-below n (take (length xs - at) (drop at xs)) (All-take P (length xs - at) (drop at xs) (All-drop P at xs (below-all n xs below)))

-- The cell of a placed block.
placed-read : (k j q : ℕ) (xs before ys offsets : List ℕ) → IsPlaced k 0 (block k xs) before ys offsets → j < length offsets → q < k
    → (get_or offsets j 0 + q < length ys) × (get_or ys (get_or offsets j 0 + q) 0 ≡ get_or xs (k * j + q) 0)
placed-read k j q xs before ys offsets pl lj lq =
    let o : ℕ = get_or offsets j 0 in
    let inside = pl.copied.inside j lj in
    let zero_j : k * (0 + j) ≡ k * j = ap (λ n. k * n) (omega arith) in (
      omega (arith, inside, lq),
      sym (window-read k o q ys 0 lq)
          ∙ (ap (λ zs. get_or zs q 0) (pl.copied.copies j lj)
          ∙ (window-read k (k * (0 + j)) q xs 0 lq ∙ ap (λ n. get_or xs (n + q) 0) zero_j)),
    )

-- The whole blocks.
index2-whole : (cells before stored places : List ℕ) → IsPlaced 32 0 (block 32 cells) before stored places
    → length places ≡ length cells / 32 → length cells % 32 ≡ 0 → Index2At cells stored places
index2-whole cells before stored places pl count none j q lq inside =
    placed-read 32 j q cells before stored places pl (omega (arith, count, none, inside, lq)) lq

-- The last, shorter block.
index2-rest : (r at : ℕ) (cells tail before stored stored' places places' : List ℕ) → r ≡ length cells % 32
    → ((q : ℕ) → q < r → get_or tail q 0 ≡ get_or cells (32 * (length cells / 32) + q) 0)
    → IsPlaced 32 0 (block 32 cells) before stored places → length places ≡ length cells / 32
    → IsLeast r at stored' tail → take (length stored) stored' ≡ stored → places' ≡ places ++ at ∷ [] → Index2At cells stored' places'
index2-rest r at cells tail before stored stored' places places' is_r at_tail pl count least kept is j q lq inside =
    elim (cases_lt j (length places)) [
      | inl lt ↦
          let w = placed-read 32 j q cells before stored places pl lt lq in
          let here : get_or places' j 0 ≡ get_or places j 0 = ap (λ xs. get_or xs j 0) is ∙ get_or_append_left places (at ∷ []) 0 j lt in
          let longer : length stored ≤ length stored' = omega (arith, ap length kept, length-take (length stored) stored') in (
            omega (arith, here, w.0, longer),
            ap (λ n. get_or stored' (n + q) 0) here
                ∙ (sym (get_or-take (length stored) stored' (get_or places j 0 + q) 0 w.0)
                ∙ (ap (λ xs. get_or xs (get_or places j 0 + q) 0) kept ∙ w.1)),
          )
      | inr ge ↦
          let jw : j ≡ length places = omega (arith, ge, count, inside, lq) in
          let qr : q < r = omega (arith, is_r, ge, count, inside, lq) in
          let here : get_or places' j 0 ≡ at = ap (λ xs. get_or xs j 0) is ∙ get_or_at places at [] 0 j (sym jw) in
          let read : get_or stored' (at + q) 0 ≡ get_or tail q 0 =
          sym (window-read r at q stored' 0 qr) ∙ ap (λ zs. get_or zs q 0) least.here in (
            omega (arith, here, least.inside, qr),
            ap (λ n. get_or stored' (n + q) 0) here
                ∙ (read ∙ (at_tail q qr ∙ ap (λ n. get_or cells n 0) (omega (arith, jw, count)))),
          )
    ]

-- The start of the cells of the last, shorter block, and these cells.
abbrev pub rest_at : List ℕ → ℕ
rest_at cells = length cells - length cells % 32

abbrev pub rest : List ℕ → List ℕ
rest cells = take (length cells - rest_at cells) (drop (rest_at cells) cells)

pub length-rest : (cells : List ℕ) → length (rest cells) ≡ length cells % 32
length-rest cells =
    omega (arith, length-take (length cells - rest_at cells) (drop (rest_at cells) cells), length-drop (rest_at cells) cells)

module _ (cells before stored places : List ℕ) (placed : IsPlaced 32 0 (block 32 cells) before stored places)
    (count : length places ≡ length cells / 32) (short : length stored ≤ length before + 32 * (length cells / 32))
    (own : AllBelow 0x10000 cells) (old : AllBelow 0x10000 before) where
  -- The cells after the whole blocks.
  fit : AllBelow 0x10000 stored
  fit = drawn-fit 0x10000 32 cells before stored places placed old own

  -- All blocks are whole.
  pub index2-placed : length cells % 32 ≡ 0 → IsIndex2 cells before stored places
  index2-placed none = record {
    count = omega (arith, count, none);
    kept = placed.kept;
    placed = index2-whole cells before stored places placed count none;
    short = omega (arith, short);
    fit = fit;
  }

  -- The last block is shorter.
  pub index2-placed-rest : (limit at : ℕ) (stored' places' : List ℕ) → 0 < length cells % 32
      → IsPlacedBlock limit (rest cells) stored stored' at → places' ≡ places ++ at ∷ [] → IsIndex2 cells before stored' places'
  index2-placed-rest limit at stored' places' some last is =
      let len = length-rest cells in
      let start : rest_at cells ≡ 32 * (length cells / 32) = omega arith in
      let longer : length before ≤ length stored = omega (arith, ap length placed.kept, length-take (length before) stored) in
      record {
        count = omega (arith, ap length is, length-append places (at ∷ []), count, some);
        kept = sym (take-take (length before) (length stored) stored' longer) ∙ ap (λ xs. take (length before) xs) last.kept ∙ placed.kept;
        placed = index2-rest (length cells % 32) at cells (rest cells) before stored stored' places places' refl
            (λ q l. tail-read cells (rest_at cells) q (omega (arith, l)) ∙ ap (λ n. get_or cells (n + q) 0) start)
            placed count (rw len at last.least) last.kept is;
        short = grind (arith, short, last.grown, len);
        fit = all-below 0x10000 stored' (last.drawn (λ x. nat_lt x 0x10000)
            (below-all 0x10000 (rest cells) (tail-below 0x10000 (rest_at cells) cells own)) (below-all 0x10000 stored fit));
      }
