-- The most bytes that a trie of so many rows takes.
use Rattle.std.proofs.Common.{◌≡◌, ap, subst, sym, ◌∙◌, ℕ, ◌+◌, ◌*◌, ◌%◌, ◌<◌, ◌≤◌, Bool, true, false, cond, ◌&&◌, List, [], ◌∷◌, length, arith, min, Option, length-append}
use Rattle.std.specs.Prelude.{nat_eq}
use Rattle.std.proofs.Math.Nat.{mul-le-mul_left}
use Rattle.std.proofs.lemmas.List.{length-map}
use Rattle.std.proofs.lemmas.List.Sums.{count_by-le-length}
use Rattle.icu_trie.specs.Parts.{Parts}
use Rattle.icu_trie_core.specs.Blocks.{block_of, count_different}
use Rattle.icu_trie_core.specs.ValueNumbers.{type_number}
use Rattle.icu_trie_core.specs.declared.header.TrieType.{TrieType}
use Rattle.icu_trie_core.specs.declared.header.TrieType.TheVariants.{Fast, Small}
use Rattle.icu_trie_binary.specs.WrittenTrie.{padding, written_length}
use Rattle.icu_trie_builder.proofs.CallerLemmas.{count_different-le_count}
use Rattle.icu_trie_builder.proofs.CallerLemmas.{count_different-few}
use Rattle.icu_trie_builder.specs.Bounds.{data_bound, index_bound}
use Rattle.icu_trie_builder.specs.Built.{IsWellBuilt}
use Rattle.icu_trie_builder.specs.Writes.{is_accepted, value_after}
use Rattle.icu_trie_builder.specs.declared.writes.Write.{Write}
use Rattle.icu_collections_c.specs.Building.{fast_end, most_blocks, most_bytes, most_data, most_index}
use Rattle.icu_collections_c.specs.Inside.BuiltValues.{AreWritesOf, row_of}
use Rattle.icu_collections_c.specs.declared.building.Row.{Row}

min-above : (x a b : ℕ) → x ≤ a → x ≤ b → x ≤ min a b
min-above x a b h k = omega (arith, h, k)

data-below : (d F S F' S' : ℕ) → d ≤ 64 * F + 16 * S + 160 → F ≤ F' → S ≤ S' → d ≤ 64 * F' + 16 * S' + 160
data-below d F S F' S' h f s = omega (arith, h, f, s)

index-below : (i N N' : ℕ) → i ≤ 36 * N + 3200 → N ≤ N' → i ≤ 36 * N' + 3200
index-below i N N' h n = omega (arith, h, n)

bytes-below : (width i i' p d d' : ℕ) → i ≤ i' → p ≤ 1 → d ≤ d' → 16 + 2 * (i + p) + width * d ≤ 16 + 2 * (i' + 1) + width * d'
bytes-below width i i' p d d' h k l = omega (arith, h, k, mul-le-mul_left width l)

one_cell : (x : ℕ) (b : Bool) → length (cond b (x ∷ []) []) ≤ 1
one_cell x true = omega arith
one_cell x false = omega arith

padding-one : (width cells : ℕ) → length (padding width cells) ≤ 1
padding-one width cells = one_cell 0xffee (nat_eq width 4 && nat_eq (cells % 2) 1)

module _ {T : Type 0} (number : T → ℕ) (d : T) (ws : List (Write T)) where
  -- So many writes leave few different blocks among so many.
  few-blocks : (n k first blocks : ℕ) → length ws ≤ n → 0 < k
      → count_different (block_of k (λ c. number (value_after ws d c))) first blocks ≤ most_blocks n blocks
  few-blocks n k first blocks l pos =
      min-above _ _ _ (omega (arith, l, count_different-few number d ws k first blocks pos, count_by-le-length (is_accepted) ws))
      (count_different-le_count (block_of k (λ c. number (value_after ws d c))) first blocks)

  few-data : (kind : TrieType) (n cells : ℕ) → length ws ≤ n → cells ≤ data_bound kind (λ c. number (value_after ws d c))
      → cells ≤ most_data n (fast_end (type_number kind))
  few-data Fast n cells l h = data-below cells _ _ _ _ h (few-blocks n 64 0 1024 l (omega arith))
      (few-blocks n 16 4096 65536 l (omega arith))
  few-data Small n cells l h = data-below cells _ _ _ _ h (few-blocks n 64 0 64 l (omega arith)) (few-blocks n 16 256 69376 l (omega arith))

  few-index : (kind : TrieType) (n cells : ℕ) → length ws ≤ n → cells ≤ index_bound kind (λ c. number (value_after ws d c))
      → cells ≤ most_index n (fast_end (type_number kind))
  few-index Fast n cells l h = index-below cells _ _ h (few-blocks n 512 128 2048 l (omega arith))
  few-index Small n cells l h = index-below cells _ _ h (few-blocks n 512 8 2168 l (omega arith))

  -- A trie that is well built from the writes of rows takes no more bytes than those rows may.
  pub size-of_rows : (rows : List Row) → AreWritesOf number rows ws → (of_number : ℕ → Option T) (t : Parts T) (kind : TrieType)
      → t.header.trie_type ≡ kind
      → IsWellBuilt of_number (λ c. number (value_after ws d c)) t
      → (width n : ℕ) → n ≡ written_length width number t → n ≤ most_bytes (length rows) (type_number kind) width
  size-of_rows rows is of_number t kind k well width n e =
      let many : length rows ≡ length ws = ap length (sym is) ∙ length-map ws (row_of number) in
      let l : length ws ≤ length rows = omega (arith, many) in
      let cells = few-data kind (length rows) (length t.values) l
      (subst (λ x. length t.values ≤ data_bound x (λ c. number (value_after ws d c))) k well.data_cells) in
      let index = few-index kind (length rows) (length t.index) l
      (subst (λ x. length t.index ≤ index_bound x (λ c. number (value_after ws d c))) k well.index_cells) in
      let below = bytes-below width (length t.index) _ (length (padding width (length t.index)))
      (length t.values) _ index (padding-one width (length t.index)) cells in
      omega (arith, e, below, length-append t.index (padding width (length t.index)))
