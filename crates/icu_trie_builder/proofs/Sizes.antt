-- The blocks in the list of a map's numbers are the blocks of the map, so the map bounds the size
-- of its trie.
use Rattle.std.proofs.Common.{◌≡◌, ℕ, ◌+◌, ◌-◌, ◌*◌, ◌/◌, ◌<◌, ◌≤◌, Bool, true, List, length, map, get_or, arith, ap, sym, ◌∙◌}
use Rattle.std.specs.Prelude.{nat_eq}
use Rattle.std.specs.Cmp.Lexicographic.{pointwise}
use Rattle.std.specs.List.{range_with_len}
use Rattle.std.proofs.lemmas.List.{get_or_default}
use Rattle.std.proofs.lemmas.List.Folds.{Any-from_list_any}
use Rattle.std.proofs.lemmas.List.FromFn.{length-range_with_len, get_or-range_with_len, length-map-range_with_len, get_or-map-range_with_len}
use Rattle.icu_trie_core.specs.declared.header.TrieType.{TrieType}
use Rattle.icu_trie_core.specs.Blocks.{window, block, block_of, count_different}
use Rattle.icu_trie_core.specs.Format.{fast_limit}
use Rattle.icu_trie_builder.specs.Bounds.{fast_blocks, small_blocks, lone_small_blocks, stands_in, stands_below}
use Rattle.icu_trie_builder.specs.Different.{count_different_but}
use Rattle.icu_trie_builder.specs.Inside.Compaction.Placed.{AllStandIn, IsCopied}
use Rattle.icu_trie_builder.proofs.CompactionLemmas.Compacting.{count_different_but-within, count_different_but-le}
use Rattle.icu_trie_builder.proofs.CompactionLemmas.Different.{block-block_of, count_different-within}
use Rattle.icu_trie_builder.proofs.CompactionLemmas.Windows.{list_decides, length-window, window-window}
use Rattle.icu_trie_builder.proofs.IndexLemmas.Laying.{parts}

-- There are at most as many lone small blocks as small blocks.
pub lone_blocks-le : (trie_type : TrieType) (f : ℕ → ℕ) → lone_small_blocks trie_type f ≤ small_blocks trie_type f
lone_blocks-le trie_type f = count_different_but-le (stands_below (block_of 64 f) (fast_limit trie_type / 64)) (block_of 16 f)
    (fast_limit trie_type / 16) (69632 - fast_limit trie_type / 16)

module _ (trie_type : TrieType) (numbers : List ℕ) (all : length numbers ≡ 0x110000) where
  same : (k j : ℕ) → k * j + k ≤ 0x110000 → block k numbers j ≡ block_of k (λ c. get_or numbers c 0) j
  same k j h = block-block_of (λ c. get_or numbers c 0) k j numbers (omega (arith, all, h)) (λ c d l. get_or_default numbers c d 0 l)

  -- The distinct blocks of 64 below the fast limit, without those of the first 128 code points.
  pub fast_blocks-list : count_different (block 64 numbers) 2 (fast_limit trie_type / 64 - 2)
      ≤ fast_blocks trie_type (λ c. get_or numbers c 0)
  fast_blocks-list =
      let t = parts trie_type in
      count_different-within (block 64 numbers)
      (block_of 64 (λ c. get_or numbers c 0)) 2 (fast_limit trie_type / 64 - 2) 0 (fast_limit trie_type / 64)
      (λ j l l'. (j, omega arith, omega (arith, l', l), same 64 j (omega (arith, l, l', t.2))))

  -- 16 numbers that occur in a copied block of 64 also occur in its copy.
  in-block : (stored fast : List ℕ) (j : ℕ) (x : List ℕ) → IsCopied 64 0 (block 64 numbers) stored fast → j < length fast
      → 64 * j + 64 ≤ 0x110000
      → stands_in x (block 64 numbers j) ≡ true → (q : ℕ) × (window 16 q stored ≡ x)
  in-block stored fast j x p l fits t =
      let ys : List ℕ = block 64 numbers j in
      let at : ℕ = get_or fast j 0 in
      let wide : length ys ≡ 64 = length-window 64 (64 * j) numbers (omega (arith, all, fits)) in
      let v = Any-from_list_any (λ i. pointwise nat_eq (window 16 i ys) x) (range_with_len 0 (length ys + 1 - 16)) t in
      let lv : v.0 < length ys + 1 - 16 = omega (arith, v.2, length-range_with_len 0 (length ys + 1 - 16)) in
      let low : v.1 + 16 ≤ 64 = omega (arith, get_or-range_with_len 0 (length ys + 1 - 16) v.0 v.1 lv, v.3, lv, wide) in
      let first : 0 + j ≡ j = omega arith in
      let copy : window 64 at stored ≡ ys = p.copies j l ∙ ap (block 64 numbers) first in
      let here : window 16 v.1 ys ≡ x = (list_decides (window 16 v.1 ys) x).0 v.4 in
      (at + v.1, sym (window-window 16 v.1 64 at stored low) ∙ (ap (λ zs. window 16 v.1 zs) copy ∙ here))

  -- 16 numbers that occur in a block of 64 below the fast limit occur in the data.
  pub stands-found : (stored fast : List ℕ) → IsCopied 64 0 (block 64 numbers) stored fast → length fast ≡ fast_limit trie_type / 64
      → AllStandIn 16 stored (stands_below (block_of 64 (λ c. get_or numbers c 0)) (fast_limit trie_type / 64))
  unfolding stands_below
  stands-found stored fast p len = λ x t.
      let n : ℕ = fast_limit trie_type / 64 in
      let b : ℕ → List ℕ = block_of 64 (λ c. get_or numbers c 0) in
      let size = parts trie_type in
      let w = Any-from_list_any (stands_in x) (map b (range_with_len 0 n)) t in
      let l : w.0 < n = omega (arith, w.2, length-map-range_with_len b 0 n) in
      let fits : 64 * w.0 + 64 ≤ 0x110000 = omega (arith, l, size.2) in
      let there : b w.0 ≡ w.1 = sym (get_or-map-range_with_len b 0 n w.0 w.0 w.1 l (omega arith)) ∙ w.3 in
      let is : block 64 numbers w.0 ≡ w.1 = same 64 w.0 fits ∙ there in
      in-block stored fast w.0 x p (omega (arith, l, len)) fits (ap (stands_in x) is ∙ w.4)

  module _ (high : ℕ) (within : high ≤ 0x110000) where
    -- The lone blocks of 16 from the fast limit up to the high start.
    pub lone_blocks-list : count_different_but (stands_below (block_of 64 (λ c. get_or numbers c 0)) (fast_limit trie_type / 64))
        (block 16 numbers) (fast_limit trie_type / 16) ((high - fast_limit trie_type) / 16)
        ≤ lone_small_blocks trie_type (λ c. get_or numbers c 0)
    lone_blocks-list =
        let t = parts trie_type in
        let test : List ℕ → Bool = stands_below (block_of 64 (λ c. get_or numbers c 0)) (fast_limit trie_type / 64) in
        count_different_but-within test test (block 16 numbers) (block_of 16 (λ c. get_or numbers c 0)) (fast_limit trie_type / 16)
        ((high - fast_limit trie_type) / 16) (fast_limit trie_type / 16) (69632 - fast_limit trie_type / 16)
        (λ j l l' out.
        let e = same 16 j (omega (arith, l, l', within, t.1, t.2)) in
        (j, l, omega (arith, l', within, t.1, t.2), e, ap test (sym e) ∙ out))

    -- There are at most as many of them as distinct blocks of 16.
    pub small_blocks-all : count_different (block 16 numbers) (fast_limit trie_type / 16)
        ((high - fast_limit trie_type) / 16) ≤ count_different (block_of 16 (λ c. get_or numbers c 0)) 0 69632
    small_blocks-all =
        let t = parts trie_type in
        count_different-within (block 16 numbers) (block_of 16 (λ c. get_or numbers c 0)) (fast_limit trie_type / 16)
        ((high - fast_limit trie_type) / 16) 0 69632
        (λ j l l'. (j, omega arith, omega (arith, l, l', within, t.1, t.2), same 16 j (omega (arith, l, l', within, t.1, t.2))))
