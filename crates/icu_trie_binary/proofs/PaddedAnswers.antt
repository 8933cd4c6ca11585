-- Cells after an index change no value that a look-up returns, and they keep a trie coherent.
use Rattle.std.proofs.Common.{◌≡◌, ℕ, zero, suc, ◌+◌, ◌-◌, ◌*◌, ◌/◌, ◌%◌, List, [], ◌∷◌, ◌++◌, length, slice_get, Option, Some, None, refl}
use Rattle.std.specs.Prelude.{Bool, true, false, nat_lt, if◌then◌else◌}
use Rattle.std.specs.Option.{option_and_then}
use Rattle.icu_trie_core.specs.Contents.{contents_of}
use Rattle.icu_trie_core.specs.declared.header.TrieType.{TrieType}
use Rattle.icu_trie_core.specs.declared.header.CodePointTrieHeader.{CodePointTrieHeader}
use Rattle.icu_trie_core.specs.Format.{answer, place, fast_limit, small_offset, index2_cell, offset_in_block, high_cell, long_offset, index1_start}

-- If the first is Some, the second is the same.
abbrev pub Keeps : {A : Type 0} → Option A → Option A → Type 0
Keeps {A} o p = (x : A) → o ≡ Some x → p ≡ Some x

keeps_all : {A : Type 0} (o : Option A) → Keeps o o
keeps_all o x e = e

keeps_if : {A : Type 0} (b : Bool) (o p q r : Option A) → Keeps o p → Keeps q r → Keeps (if b then o else q) (if b then p else r)
keeps_if true o p q r h g = h
keeps_if false o p q r h g = g

keeps_then : {A B : Type 0} (f g : A → Option B) (o p : Option A) → ((x : A) → Keeps (f x) (g x)) → Keeps o p
    → Keeps (option_and_then f o) (option_and_then g p)
keeps_then f g None p h k y e = cc
keeps_then f g (Some x) p h k y e = rw (k x refl) (h x y e)

pub keeps_cell : {A : Type 0} (index behind : List A) (i : ℕ) → Keeps (slice_get index i) (slice_get (index ++ behind) i)
keeps_cell [] behind i x e = cc
keeps_cell (c ∷ index) behind zero x e = e
keeps_cell (c ∷ index) behind (suc i) x e = keeps_cell index behind i x e

module _ (index behind : List ℕ) where
  keeps_offset_in_block : (cell p : ℕ) → Keeps (offset_in_block index cell p) (offset_in_block (index ++ behind) cell p)
  keeps_offset_in_block cell p =
      let group = cell - 0x8000 + 9 * (p / 8) in
      let first = nat_lt cell 0x8000 in
      keeps_if first _ _ _ _ (keeps_cell index behind (cell + p))
      (keeps_then _ _ _ _ (λ high. keeps_then _ _ _ _ (λ low. keeps_all (Some (long_offset high low (p % 8))))
      (keeps_cell index behind (group + 1 + p % 8))) (keeps_cell index behind group))

  pub keeps_index2 : (kind : TrieType) (u : ℕ) → Keeps (index2_cell kind index u) (index2_cell kind (index ++ behind) u)
  keeps_index2 kind u =
      keeps_then _ _ _ _ (λ block. keeps_cell index behind (block + u / 0x200 % 32))
      (keeps_cell index behind (u / 0x4000 + index1_start kind))

  pub keeps_small : (kind : TrieType) (u : ℕ) → Keeps (small_offset kind index u) (small_offset kind (index ++ behind) u)
  unfolding small_offset
  keeps_small kind u = keeps_then _ _ _ _ (λ cell. keeps_offset_in_block cell (u / 16 % 32)) (keeps_index2 kind u)

  pub keeps_place : (h g : CodePointTrieHeader) (len u : ℕ) → g.trie_type ≡ h.trie_type → g.high_start ≡ h.high_start
      → Keeps (place h index len u) (place g (index ++ behind) len u)
  keeps_place h g len u same_type same_start =
      rw (same_type, same_start) (keeps_if (nat_lt 0x10FFFF u) _ _ _ _ (keeps_all None)
      (keeps_if (nat_lt u (fast_limit h.trie_type)) _ _ _ _
      (keeps_then _ _ _ _ (λ o. keeps_all (Some (o + u % 64))) (keeps_cell index behind (u / 64)))
      (keeps_if (nat_lt u h.high_start) _ _ _ _ (keeps_then _ _ _ _ (λ o. keeps_all (Some (o + u % 16))) (keeps_small h.trie_type u))
      (keeps_all (high_cell len)))))

  pub keeps_answer : {T : Type 0} (h g : CodePointTrieHeader) (values : List T) (u : ℕ) → g.trie_type ≡ h.trie_type
      → g.high_start ≡ h.high_start
      → Keeps (answer h (contents_of index values) u) (answer g (contents_of (index ++ behind) values) u)
  unfolding answer
  keeps_answer h g values u same_type same_start =
      keeps_then _ _ _ _ (λ i. keeps_all (slice_get values i)) (keeps_place h g (length values) u same_type same_start)
