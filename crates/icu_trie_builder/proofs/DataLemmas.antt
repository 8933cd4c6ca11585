-- Placed blocks are valid data.
use Rattle.std.proofs.Common.{◌≡◌, ℕ, ◌+◌, ◌-◌, ◌*◌, ◌/◌, ◌%◌, ◌<◌, ◌≤◌, ◌⊎◌, Bool, true, List, [], ◌∷◌, ◌++◌, length, get_or, take, drop, arith, sym, ap, ◌∙◌, Option, Some, None, slice_get, subst, inl, inr, refl, zero, suc}
use Rattle.std.specs.Prelude.{IfSome, IfNone, MatchOption}
use Rattle.std.specs.List.{AllPass}
use Rattle.std.proofs.lemmas.Bool.{le-ltb}
use Rattle.std.proofs.lemmas.List.{same_lists, get_or_default, get_or-take, get_or_append_left, get_or_at, length-append, length-take, length-take-le, take_all, take-append-le, take-take, drop-take}
use Rattle.std.proofs.lemmas.List.Elements.{All-take, All-drop}
use Rattle.icu_trie_core.specs.declared.header.TrieType.{TrieType}
use Rattle.icu_trie_core.specs.Blocks.{window, block, count_different}
use Rattle.icu_trie_core.specs.Format.{fast_limit, high_value}
use Rattle.icu_trie.specs.Parts.{last_cell}
use Rattle.icu_trie_builder.specs.Inside.Data.{IsData, SameNumbers}
use Rattle.icu_trie_builder.specs.Inside.Map.NumberMap.{IsHighFrom}
use Rattle.icu_trie_builder.specs.NullBlock.{HoldsOne, SomeHoldsOne}
use Rattle.icu_trie_builder.specs.Inside.FilledBlocks.{IsMoved, IsNull, HasNoNull}
use Rattle.icu_trie_builder.specs.Inside.Index.Layout.{AllBelow}
use Rattle.icu_trie_builder.specs.declared.data.null_block.NullBlock.{NullBlock}
use Rattle.icu_trie_builder.specs.Inside.Compaction.Placed.{IsPlaced, IsCopied}
use Rattle.icu_trie_builder.proofs.CompactionLemmas.Different.{count_different-le_count}
use Rattle.icu_trie_builder.proofs.CompactionLemmas.Windows.{length-window, window-read}
use Rattle.icu_trie_builder.proofs.IndexLemmas.Growing.{cell_there}
use Rattle.icu_trie_builder.proofs.IndexLemmas.Laying.{parts}
use Rattle.icu_trie_builder.proofs.NullLemmas.{window-kept}

-- The last cell but one is the high value.
pub high-end : (xs : List ℕ) (x : ℕ) → 2 ≤ length xs → get_or xs (length xs - 2) 0 ≡ x → high_value xs ≡ Some x
high-end xs x some is = rw (le-ltb (length xs) 2 some) (cell_there xs (length xs - 2) x (omega (arith, some)) is)

-- The last cell is the error value.
pub last-end : (xs : List ℕ) (x : ℕ) → 1 ≤ length xs → get_or xs (length xs - 1) 0 ≡ x → last_cell xs ≡ Some x
last-end xs x some is = cell_there xs (length xs - 1) x (omega (arith, some)) is

-- One more cell.
pub end-push : (xs ys : List ℕ) (x : ℕ) → ys ≡ xs ++ x ∷ [] → (length ys ≡ length xs + 1) × (get_or ys (length ys - 1) 0 ≡ x)
end-push xs ys x is =
    let len : length ys ≡ length xs + 1 = omega (arith, ap length is, length-append xs (x ∷ [])) in
    let last : length ys - 1 ≡ length xs = omega (arith, len) in
    (len, ap (λ i. get_or ys i 0) last ∙ (ap (λ zs. get_or zs (length xs) 0) is ∙ get_or_at xs x [] 0 (length xs) refl))

pub kept-push : (xs ys : List ℕ) (x : ℕ) → ys ≡ xs ++ x ∷ [] → take (length xs) ys ≡ xs
kept-push xs ys x is = ap (take (length xs)) is
    ∙ (take-append-le (length xs) xs (x ∷ []) (omega arith) ∙ take_all (length xs) xs (omega arith))

-- The last of the cells before.
pub before-push : (xs ys : List ℕ) (x : ℕ) → ys ≡ xs ++ x ∷ [] → 0 < length xs → get_or ys (length ys - 2) 0 ≡ get_or xs (length xs - 1) 0
before-push xs ys x is some =
    let len = (end-push xs ys x is).0 in
    let at : length ys - 2 ≡ length xs - 1 = omega (arith, len, some) in
    ap (λ i. get_or ys i 0) at ∙ (ap (λ zs. get_or zs (length xs - 1) 0) is
    ∙ get_or_append_left xs (x ∷ []) 0 (length xs - 1) (omega (arith, some)))

-- A cell of a copied block.
read-copied : (k first j i : ℕ) (numbers after offsets : List ℕ) → IsCopied k first (block k numbers) after offsets → j < length offsets
    → i < k
    → get_or after (get_or offsets j 0 + i) 0 ≡ get_or numbers (k * (first + j) + i) 0
read-copied k first j i numbers after offsets p h l = sym (window-read k (get_or offsets j 0) i after 0 l)
    ∙ (ap (λ xs. get_or xs i 0) (p.copies j h) ∙ window-read k (k * (first + j)) i numbers 0 l)

-- Appending cells does not change the copies.
copied-kept : (k first : ℕ) (b : ℕ → List ℕ) (before after offsets : List ℕ) → IsCopied k first b before offsets
    → take (length before) after ≡ before → IsCopied k first b after offsets
copied-kept k first b before after offsets p kept =
    let longer : length before ≤ length after = omega (arith, ap length kept, length-take (length before) after) in
    record {
      inside = λ j l. omega (arith, p.inside j l, longer);
      copies = λ j l. window-kept k (get_or offsets j 0) before after kept (p.inside j l) ∙ p.copies j l;
    }

-- The first two positions, and the others after them.
after-first : (rest : List ℕ) (n : ℕ) → get_or (0 ∷ 64 ∷ rest) (2 + n) 0 ≡ get_or rest n 0
after-first rest n = let e : 2 + n ≡ suc (suc n) = omega arith in ap (λ x. get_or (0 ∷ 64 ∷ rest) x 0) e

first-cases : (P : ℕ → Type 0) → P 0 → P 1 → (rest : List ℕ) → ((j : ℕ) → j < length rest → P (suc (suc j))) → (j : ℕ)
    → j < length (0 ∷ 64 ∷ rest) → P j
first-cases P one two rest more zero l = one
first-cases P one two rest more (suc zero) l = two
first-cases P one two rest more (suc (suc j)) l = more j (omega (arith, l))

-- The first 128 cells unchanged, and blocks of 64 after them.
copied-first : (numbers after rest : List ℕ) → 128 ≤ length numbers → IsPlaced 64 2 (block 64 numbers) (take 128 numbers) after rest
    → IsCopied 64 0 (block 64 numbers) after (0 ∷ 64 ∷ rest)
copied-first numbers after rest le p =
    let first : take 128 after ≡ take 128 numbers = ap (λ n. take n after) (sym (length-take-le 128 numbers le)) ∙ p.kept in
    let longer : 128 ≤ length after = omega (arith, ap length first, length-take 128 after, length-take-le 128 numbers le) in
    record {
      inside = first-cases (λ j. get_or (0 ∷ 64 ∷ rest) j 0 + 64 ≤ length after) (omega (arith, longer))
          (omega (arith, longer)) rest (λ j l. p.copied.inside j l);
      copies = first-cases (λ j. window 64 (get_or (0 ∷ 64 ∷ rest) j 0) after ≡ block 64 numbers (0 + j))
          (sym (take-take 64 128 after (omega arith)) ∙ (ap (λ ys. take 64 ys) first ∙ take-take 64 128 numbers (omega arith)))
          (sym (drop-take 64 64 after) ∙ (ap (λ ys. drop 64 ys) first ∙ drop-take 64 64 numbers)) rest
          (λ j l. let e : 2 + j ≡ 0 + suc (suc j) = omega arith in p.copied.copies j l ∙ ap (block 64 numbers) e);
    }

shared-first : (numbers before after rest : List ℕ) → IsPlaced 64 2 (block 64 numbers) before after rest → (i j : ℕ) → 2 ≤ i → 2 ≤ j
    → i < length (0 ∷ 64 ∷ rest) → j < length (0 ∷ 64 ∷ rest)
    → block 64 numbers i ≡ block 64 numbers j → get_or (0 ∷ 64 ∷ rest) i 0 ≡ get_or (0 ∷ 64 ∷ rest) j 0
shared-first numbers before after rest p i j a b l m e =
    let i' : ℕ = i - 2 in
    let j' : ℕ = j - 2 in
    let is : i ≡ 2 + i' = omega (arith, a) in
    let js : j ≡ 2 + j' = omega (arith, b) in
    let s = p.shared i' j' (omega (arith, l, a)) (omega (arith, m, b)) (ap (block 64 numbers) (sym is) ∙ (e ∙ ap (block 64 numbers) js)) in
    ap (λ x. get_or (0 ∷ 64 ∷ rest) x 0) is ∙
    (after-first rest i' ∙ (s ∙ (sym (after-first rest j') ∙ ap (λ x. get_or (0 ∷ 64 ∷ rest) x 0) (sym js))))

-- There are 128 first cells.
pub first_len : (numbers first : List ℕ) → length numbers ≡ 0x110000 → first ≡ take 128 numbers → length first ≡ 128
first_len numbers first all start = ap length start ∙ length-take-le 128 numbers (omega (arith, all))

-- The bound on the cells for code points below the fast limit: the first 128, and the distinct
-- blocks of 64.
pub fast_cells : (t : TrieType) (numbers first one : List ℕ) → length numbers ≡ 0x110000 → first ≡ take 128 numbers
    → length one ≤ length first + 64 * count_different (block 64 numbers) 2 (fast_limit t / 64 - 2) → length one ≤ 0x10000
fast_cells t numbers first one all start short =
    omega (
      arith,
      short,
      first_len numbers first all start,
      (parts t).2,
      count_different-le_count (block 64 numbers) 2 (fast_limit t / 64 - 2),
    )

-- The contents that were written back to a slice.
pub written-back : (n : ℕ) (old new : List ℕ) → n ≡ length old → length new ≡ length old → take n (new ++ drop (length new) old) ≡ new
written-back n old new full same = take-append-le n new (drop (length new) old) (omega (arith, full, same))
    ∙ take_all n new (omega (arith, full, same))

-- The data while it grows: the first 128 cells, and blocks of 64.
module _ (trie_type : TrieType) (numbers first one rest fast : List ℕ) (all : length numbers ≡ 0x110000) (start : first ≡ take 128 numbers)
    (p : IsPlaced 64 2 (block 64 numbers) first one rest) (rest_len : length rest ≡ fast_limit trie_type / 64 - 2)
    (list : fast ≡ 0 ∷ 64 ∷ rest) where
  pub fast_len : length fast ≡ fast_limit trie_type / 64
  fast_len = omega (arith, ap length list, rest_len, (parts trie_type).3)

  pub fast_one : IsCopied 64 0 (block 64 numbers) one fast
  fast_one = subst (λ os. IsCopied 64 0 (block 64 numbers) one os) (sym list)
      (copied-first numbers one rest (omega (arith, all)) (subst (λ xs. IsPlaced 64 2 (block 64 numbers) xs one rest) start p))

  -- Offsets below 0x10000.
  pub offsets_low : length one ≤ 128 + 64 * count_different (block 64 numbers) 2 (fast_limit trie_type / 64 - 2) → (j : ℕ) → j < length fast
      → get_or fast j 0 < 0x10000
  offsets_low short j l =
      omega (
        arith,
        fast_one.inside j l,
        short,
        count_different-le_count (block 64 numbers) 2 (fast_limit trie_type / 64 - 2),
        (parts trie_type).2,
        (parts trie_type).3,
      )

-- Then blocks of 16.
module _ (trie_type : TrieType) (high : ℕ) (numbers first one two rest fast old : List ℕ) (all : length numbers ≡ 0x110000)
    (start : first ≡ take 128 numbers)
    (p : IsPlaced 64 2 (block 64 numbers) first one rest) (rest_len : length rest ≡ fast_limit trie_type / 64 - 2)
    (list : fast ≡ 0 ∷ 64 ∷ rest)
    (q : IsPlaced 16 (fast_limit trie_type / 16) (block 16 numbers) one two old)
    (old_len : length old ≡ (high - fast_limit trie_type) / 16) where
  pub fast_two : IsCopied 64 0 (block 64 numbers) two fast
  fast_two = copied-kept 64 0 (block 64 numbers) one two fast (fast_one trie_type numbers first one rest fast all start p rest_len list)
      q.kept

  -- Each cell is a number of the map.
  pub two-drawn : (t : ℕ → Bool) → AllPass t numbers → AllPass t two
  two-drawn t pass =
      let P : ℕ → Type 0 = λ x. t x ≡ true in
      let begin : AllPass t first = subst (λ xs. AllPass t xs) (sym start) (All-take P 128 numbers pass) in
      q.drawn t (λ j l. All-take P 16 (drop (16 * (fast_limit trie_type / 16 + j)) numbers)
      (All-drop P (16 * (fast_limit trie_type / 16 + j)) numbers pass))
      (p.drawn t (λ j l. All-take P 64 (drop (64 * (2 + j)) numbers) (All-drop P (64 * (2 + j)) numbers pass)) begin)

-- Then the null block.
module _ (trie_type : TrieType) (high : ℕ) (numbers first one two three rest fast old small : List ℕ) (all : length numbers ≡ 0x110000)
    (start : first ≡ take 128 numbers)
    (p : IsPlaced 64 2 (block 64 numbers) first one rest) (rest_len : length rest ≡ fast_limit trie_type / 64 - 2)
    (list : fast ≡ 0 ∷ 64 ∷ rest)
    (q : IsPlaced 16 (fast_limit trie_type / 16) (block 16 numbers) one two old) (old_len : length old ≡ (high - fast_limit trie_type) / 16)
    (kept : take (length two) three ≡ two) (m : IsMoved two three old small) where
  pub fast_three : IsCopied 64 0 (block 64 numbers) three fast
  fast_three = copied-kept 64 0 (block 64 numbers) two three fast
      (fast_two trie_type high numbers first one two rest fast old all start p rest_len list q old_len) kept

  pub small_three : IsCopied 16 (fast_limit trie_type / 16) (block 16 numbers) three small
  small_three = record { inside = m.inside; copies = λ j l. m.copies j l ∙ q.copied.copies j (omega (arith, l, m.count)) }

  pub fast_shared : (i j : ℕ) → 2 ≤ i → 2 ≤ j → i < length fast → j < length fast → block 64 numbers i ≡ block 64 numbers j
      → get_or fast i 0 ≡ get_or fast j 0
  fast_shared = subst (λ os. (i j : ℕ) → 2 ≤ i → 2 ≤ j → i < length os → j < length os → block 64 numbers i ≡ block 64 numbers j
      → get_or os i 0 ≡ get_or os j 0) (sym list) (shared-first numbers first one rest p)

  pub small_shared : (i j : ℕ) → i < length small → j < length small
      → block 16 numbers (fast_limit trie_type / 16 + i) ≡ block 16 numbers (fast_limit trie_type / 16 + j)
      → get_or small i 0 ≡ get_or small j 0
  small_shared i j l h e = m.same i j (omega (arith, l, m.count)) (omega (arith, h, m.count))
      (q.shared i j (omega (arith, l, m.count)) (omega (arith, h, m.count)) e)

-- The null block, or its absence together with the offset for it.
abbrev pub NullOrNone : List ℕ → List ℕ → List ℕ → ℕ → ℕ → Type 0
NullOrNone fast small cells offset value = IsNull fast small cells offset value ⊎ (HasNoNull fast small cells × (offset ≡ 0xfffff))

pub null-cases : (fast small cells : List ℕ) (default : ℕ) (o : Option NullBlock) (r : NullBlock)
    → IfSome o (λ n. IsNull fast small cells n.offset n.value) → IfNone o (HasNoNull fast small cells)
    → MatchOption o ((r.offset ≡ 0xfffff) × (r.value ≡ default)) (λ n. r ≡ n)
    → (IsNull fast small cells r.offset r.value) ⊎ (HasNoNull fast small cells × (r.offset ≡ 0xfffff) × (r.value ≡ default))
null-cases fast small cells default None r some none e = inr (none, e.0, e.1)
null-cases fast small cells default (Some n) r some none e = inl (subst (λ n. IsNull fast small cells n.offset n.value) (sym e) some)

-- Blocks of equal numbers are equal.
same-block : (numbers : List ℕ) (k b d : ℕ) → k * b + k ≤ length numbers → k * d + k ≤ length numbers
    → SameNumbers (λ c. get_or numbers c 0) k b d → block k numbers b ≡ block k numbers d
same-block numbers k b d inb ind same =
    let lb : length (block k numbers b) ≡ k = length-window k (k * b) numbers inb in
    let ld : length (block k numbers d) ≡ k = length-window k (k * d) numbers ind in
    same_lists (block k numbers b) (block k numbers d) (lb ∙ sym ld)
    (λ i y l. let lt : i < k = omega (arith, l, lb) in
    window-read k (k * b) i numbers y lt ∙ (get_or_default numbers (k * b + i) y 0 (omega (arith, inb, lt))
    ∙ (ap (λ n. get_or numbers n 0) (omega arith) ∙ (same i lt
    ∙ (ap (λ n. get_or numbers n 0) (omega arith)
    ∙ (get_or_default numbers (k * d + i) 0 y (omega (arith, ind, lt)) ∙ sym (window-read k (k * d) i numbers y lt)))))))

module _ (trie_type : TrieType) (high : ℕ) (numbers stored values fast small : List ℕ)
    (all : length numbers ≡ 0x110000) (aligned : high % 512 ≡ 0) (within : high ≤ 0x110000) (tail : IsHighFrom numbers high)
    (f : IsCopied 64 0 (block 64 numbers) stored fast) (fast_size : length fast ≡ fast_limit trie_type / 64)
    (s : IsCopied 16 (fast_limit trie_type / 16) (block 16 numbers) stored small)
    (small_size : length small ≡ (high - fast_limit trie_type) / 16)
    (kept : take (length stored) values ≡ stored) (ends : high < 0x110000 → high_value values ≡ Some (get_or numbers 0x10ffff 0)) where
  kept-values : (i : ℕ) → i < length stored → get_or values i 0 ≡ get_or stored i 0
  kept-values i l = sym (get_or-take (length stored) values i 0 l) ∙ ap (λ xs. get_or xs i 0) kept

  values-longer : length stored ≤ length values
  values-longer = omega (arith, ap length kept, length-take (length stored) values)

  read-fast : (j i : ℕ) → j < length fast → i < 64 → slice_get values (get_or fast j 0 + i) ≡ Some (get_or numbers (64 * (0 + j) + i) 0)
  read-fast j i h l =
      let inside = f.inside j h in
      let at : ℕ = get_or fast j 0 + i in
      cell_there values at (get_or numbers (64 * (0 + j) + i) 0) (omega (arith, inside, l, values-longer))
      (kept-values at (omega (arith, inside, l)) ∙ read-copied 64 0 j i numbers stored fast f h l)

  read-small : (j i : ℕ) → j < length small → i < 16
      → slice_get values (get_or small j 0 + i) ≡ Some (get_or numbers (16 * (fast_limit trie_type / 16 + j) + i) 0)
  read-small j i h l =
      let inside = s.inside j h in
      let at : ℕ = get_or small j 0 + i in
      cell_there values at (get_or numbers (16 * (fast_limit trie_type / 16 + j) + i) 0) (omega (arith, inside, l, values-longer))
      (kept-values at (omega (arith, inside, l)) ∙ read-copied 16 (fast_limit trie_type / 16) j i numbers stored small s h l)

  -- A number in a block of 64 below the fast limit, and in a block of 16 from it on.
  number-fast : (b i : ℕ) → b < fast_limit trie_type / 64 → i < 64 → get_or numbers (b * 64 + i) 0 ≡ get_or stored (get_or fast b 0 + i) 0
  number-fast b i l li =
      let at : b * 64 + i ≡ 64 * (0 + b) + i = omega arith in
      ap (λ n. get_or numbers n 0) at ∙ sym (read-copied 64 0 b i numbers stored fast f (omega (arith, fast_size, l)) li)

  number-small : (b i : ℕ) → fast_limit trie_type / 16 ≤ b → b * 16 < high → i < 16
      → get_or numbers (b * 16 + i) 0 ≡ get_or stored (get_or small (b - fast_limit trie_type / 16) 0 + i) 0
  number-small b i from below li =
      let t = parts trie_type in
      let j : ℕ = b - fast_limit trie_type / 16 in
      let at : b * 16 + i ≡ 16 * (fast_limit trie_type / 16 + j) + i = omega (arith, from) in
      ap (λ n. get_or numbers n 0) at
      ∙ sym (read-copied 16 (fast_limit trie_type / 16) j i numbers stored small s
      (omega (arith, small_size, from, below, t.1, aligned)) li)

  module _ (null value : ℕ) (is : NullOrNone fast small stored null value) (fast_fit : AllBelow 0x10000 fast)
      (small_fit : AllBelow 0x40000 small) where
    null-fast : (b i : ℕ) → b < fast_limit trie_type / 64 → i < 64 → get_or fast b 0 ≡ null → get_or numbers (b * 64 + i) 0 ≡ value
    null-fast b i l li e = elim is [
      | inl n ↦ number-fast b i l li ∙ (ap (λ at. get_or stored (at + i) 0) e ∙ n.on_fast b (omega (arith, fast_size, l)) e i li)
      | inr none ↦ absurd (omega (arith, none.1, e, fast_fit b (omega (arith, fast_size, l))))
    ]

    null-small : (b i : ℕ) → fast_limit trie_type / 16 ≤ b → b * 16 < high → i < 16 → get_or small (b - fast_limit trie_type / 16) 0 ≡ null
        → get_or numbers (b * 16 + i) 0 ≡ value
    null-small b i from below li e =
        let t = parts trie_type in
        let there : b - fast_limit trie_type / 16 < length small = omega (arith, small_size, from, below, t.1, aligned) in
        elim is [
          | inl n ↦ number-small b i from below li
              ∙ (ap (λ at. get_or stored (at + i) 0) e ∙ n.on_small (b - fast_limit trie_type / 16) there e i li)
          | inr none ↦ absurd (omega (arith, none.1, e, small_fit (b - fast_limit trie_type / 16) there))
        ]

    -- A block at the null offset has one number throughout.
    one-fast : (b : ℕ) → b < fast_limit trie_type / 64 → get_or fast b 0 ≡ null → HoldsOne (λ c. get_or numbers c 0) 64 b
    one-fast b l e i li =
        let start : b * 64 + 0 ≡ b * 64 = omega arith in
        null-fast b i l li e ∙ (sym (null-fast b 0 l (omega arith) e) ∙ ap (λ n. get_or numbers n 0) start)

    one-small : (b : ℕ) → fast_limit trie_type / 16 ≤ b → b * 16 < high → get_or small (b - fast_limit trie_type / 16) 0 ≡ null
        → HoldsOne (λ c. get_or numbers c 0) 16 b
    one-small b from below e i li =
        let start : b * 16 + 0 ≡ b * 16 = omega arith in
        null-small b i from below li e ∙ (sym (null-small b 0 from below (omega arith) e) ∙ ap (λ n. get_or numbers n 0) start)

    -- The null block is one of the blocks.
    used : IsNull fast small stored null value → SomeHoldsOne trie_type high (λ c. get_or numbers c 0) (λ b. get_or fast b 0 ≡ null)
        (λ b. get_or small (b - fast_limit trie_type / 16) 0 ≡ null)
    used n = let t = parts trie_type in elim n.used [
      | inl w ↦ inl (w.0, omega (arith, w.1, fast_size, t.1), one-fast w.0 (omega (arith, w.1, fast_size)) w.2, w.2)
      | inr w ↦
          let b : ℕ = fast_limit trie_type / 16 + w.0 in
          let back : b - fast_limit trie_type / 16 ≡ w.0 = omega arith in
          let below : b * 16 < high = omega (arith, w.1, small_size, t.1, aligned) in
          let e : get_or small (b - fast_limit trie_type / 16) 0 ≡ null = ap (λ j. get_or small j 0) back ∙ w.2 in
          inr (b, omega (arith, t.1), below, one-small b (omega arith) below e, e)
    ]

    names : SomeHoldsOne trie_type high (λ c. get_or numbers c 0) (λ _. Unit {0}) (λ _. Unit {0})
        → SomeHoldsOne trie_type high (λ c. get_or numbers c 0) (λ b. get_or fast b 0 ≡ null)
        (λ b. get_or small (b - fast_limit trie_type / 16) 0 ≡ null)
    names given = let t = parts trie_type in elim is [
      | inl n ↦ used n
      | inr none ↦ elim given [
        | inl w ↦
            let l : w.0 < fast_limit trie_type / 64 = omega (arith, w.1, t.1) in
            absurd (none.0.on_fast w.0 (get_or numbers (w.0 * 64) 0) (omega (arith, l, fast_size))
            (λ i li. sym (number-fast w.0 i l li) ∙ w.2 i li))
        | inr w ↦
            let from : fast_limit trie_type / 16 ≤ w.0 = omega (arith, w.1, t.1) in
            absurd (none.0.on_small (w.0 - fast_limit trie_type / 16) (get_or numbers (w.0 * 16) 0)
            (omega (arith, w.2, from, small_size, t.1, aligned))
            (λ i li. sym (number-small w.0 i from w.2 li) ∙ w.3 i li))
      ]
    ]

    names_none : (SomeHoldsOne trie_type high (λ c. get_or numbers c 0) (λ _. Unit {0}) (λ _. Unit {0}) → ⊥) → null ≡ 0xfffff
    names_none never = elim is [
      | inl n ↦ absurd (never (elim (used n) [ inl w ↦ inl (w.0, w.1, w.2, tt) | inr w ↦ inr (w.0, w.1, w.2, w.3, tt) ]))
      | inr none ↦ none.1
    ]

    -- Placed blocks are valid data for the map of the numbers.
    pub is_data : ((i j : ℕ) → 2 ≤ i → 2 ≤ j → i < length fast → j < length fast → block 64 numbers i ≡ block 64 numbers j
        → get_or fast i 0 ≡ get_or fast j 0)
        → ((i j : ℕ) → i < length small → j < length small
        → block 16 numbers (fast_limit trie_type / 16 + i) ≡ block 16 numbers (fast_limit trie_type / 16 + j)
        → get_or small i 0 ≡ get_or small j 0)
        → IsData trie_type high null value (λ c. get_or numbers c 0) fast small values
    is_data fast_same small_same =
        let t = parts trie_type in
        record {
          fast_len = fast_size;
          small_len = small_size;
          on_fast = λ c l. read-fast (c / 64) (c % 64) (omega (arith, fast_size, l, t.1)) (omega arith)
              ∙ ap (λ n. Some (get_or numbers n 0)) (omega arith);
          on_small = λ c from below. read-small (c / 16 - fast_limit trie_type / 16) (c % 16)
              (omega (arith, small_size, from, below, t.1, aligned)) (omega arith)
              ∙ ap (λ n. Some (get_or numbers n 0)) (omega (arith, from, t.1));
          on_high = λ c from below. ends (omega (arith, from, below)) ∙ ap (λ x. Some x) (sym (tail c from below));
          shared_fast = λ b d ab ad lb ld same. fast_same b d ab ad (omega (arith, fast_size, lb)) (omega (arith, fast_size, ld))
              (same-block numbers 64 b d (omega (arith, lb, t.2, all)) (omega (arith, ld, t.2, all)) same);
          shared_small = λ b d fb fd lb ld same. small_same (b - fast_limit trie_type / 16) (d - fast_limit trie_type / 16)
              (omega (arith, small_size, fb, lb, t.1, aligned)) (omega (arith, small_size, fd, ld, t.1, aligned))
              (ap (block 16 numbers) (omega (arith, fb))
              ∙ (same-block numbers 16 b d (omega (arith, lb, aligned, within, all)) (omega (arith, ld, aligned, within, all)) same
              ∙ ap (block 16 numbers) (omega (arith, fd))));
          null_fast = null-fast;
          null_small = null-small;
          names_null = names;
          no_null = names_none;
          fast_fit = fast_fit;
          small_fit = small_fit;
          fast_inside = λ j h. let inside = f.inside j h in omega (arith, inside, values-longer);
        }

-- The null value is a cell, and its offset is the offset of a block.
pub null-number : (fast small cells : List ℕ) (offset value : ℕ) → IsNull fast small cells offset value
    → ((j : ℕ) → j < length fast → get_or fast j 0 + 64 ≤ length cells)
    → ((j : ℕ) → j < length small → get_or small j 0 + 16 ≤ length cells)
    → (offset < length cells) × (get_or cells offset 0 ≡ value)
null-number fast small cells offset value n inf ins = elim n.used [
  | inl w ↦ let start : offset + 0 ≡ offset = omega arith in
      (omega (arith, inf w.0 w.1, w.2), ap (λ i. get_or cells i 0) (sym start) ∙ n.on_fast w.0 w.1 w.2 0 (omega arith))
  | inr w ↦ let start : offset + 0 ≡ offset = omega arith in
      (omega (arith, ins w.0 w.1, w.2), ap (λ i. get_or cells i 0) (sym start) ∙ n.on_small w.0 w.1 w.2 0 (omega arith))
]
