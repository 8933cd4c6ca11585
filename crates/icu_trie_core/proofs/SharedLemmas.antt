-- Over a coherent and shared trie, blocks in which a walk sees one value have the same cell, so a
-- walk reads few of them.
use Rattle.std.proofs.Common.{◌≡◌, ◌≢◌, inl, inr, ◌+◌, ◌-◌, ◌*◌, ◌/◌, ◌%◌, ◌<◌, ◌≤◌, ℕ, List, slice_get, Option, Some, sym, ◌∙◌, ap, arith, min}
use Rattle.std.proofs.lemmas.Bool.{cases_lt}
use Rattle.icu_trie_core.specs.Contents.{contents_of}
use Rattle.icu_trie_core.specs.Format.{answer, fast_limit, fast_offset, small_offset, index2_cell, offset_in_block}
use Rattle.icu_trie_core.specs.Coherence.{IsCoherent, IsShared}
use Rattle.icu_trie_core.specs.Seen.{seen}
use Rattle.icu_trie_core.specs.Inside.Walk.{Holds, cell_seen, SharesBlocks, blocks_end, fast_end}
use Rattle.icu_trie_core.specs.declared.header.CodePointTrieHeader.{CodePointTrieHeader}
use Rattle.icu_trie_core.proofs.AnswerLemmas.{fast_limit_most, small_offset_at}
use Rattle.icu_trie_core.proofs.SeenLemmas.{seen-below, seen-cell}

module _ {A : Type 0} {of_number : ℕ → Option A} {h : CodePointTrieHeader} {index : List ℕ} {values : List A}
    (coherent : IsCoherent of_number h (contents_of index values)) (shares : IsShared h (contents_of index values)) where
  -- If a walk sees the same at two code points below the high start, they have the same look-up
  -- result.
  same_answer : (u v : ℕ) → u < h.high_start → v < h.high_start
      → seen of_number h (contents_of index values) u ≡ seen of_number h (contents_of index values) v
      → answer h (contents_of index values) u ≡ answer h (contents_of index values) v
  same_answer u v below lower same = sym (seen-below of_number h index values coherent u below) ∙ same
      ∙ seen-below of_number h index values coherent v lower

  -- A block of 64 and the one before it.
  same_offset : (start b : ℕ) (value : A) → 3 ≤ b → start ≤ (b - 1) * 64 → b * 64 + 64 ≤ fast_limit h.trie_type → b * 64 + 64 ≤ h.high_start
      → Holds (seen of_number h (contents_of index values)) start (b * 64 + 64) value → slice_get index (b - 1) ≡ slice_get index b
  same_offset start b value three begun fast below holds =
      let here : b * 64 / 64 ≡ b = omega arith in
      let there : (b - 1) * 64 / 64 ≡ b - 1 = omega arith in
      let same : fast_offset index ((b - 1) * 64) ≡ fast_offset index (b * 64)
      = shares.fast (b - 1) b (omega (arith, three), omega (arith, fast), omega (arith, below))
      (omega (arith, three), omega (arith, fast), omega (arith, below))
      (λ i lt. same_answer ((b - 1) * 64 + i) (b * 64 + i) (omega (arith, below, lt)) (omega (arith, below, lt))
      (holds ((b - 1) * 64 + i) (omega (arith, begun)) (omega (arith, three, lt))
      ∙ sym (holds (b * 64 + i) (omega (arith, begun)) (omega (arith, lt))))) in
      rw (here, there) at same

  -- The reads up to the end of a block of 64 that was not skipped, from the count of the reads
  -- before it.
  pub reads_after : (start b offset r s t : ℕ) (value : A) (remembered : Option ℕ) → b * 64 + 64 ≤ fast_limit h.trie_type
      → b * 64 + 64 ≤ h.high_start → slice_get index b ≡ Some offset → start / 64 ≤ b
      → Holds (seen of_number h (contents_of index values)) start (b * 64 + 64) value
      → (start / 64 + 2 ≤ b → remembered ≡ slice_get index (b - 1))
      → s + start / 64 ≤ r + b + 64 * min (b - start / 64) 4
      → t ≤ s + 65 → remembered ≢ Some offset
      → t + start / 64 ≤ r + (b + 1) + 64 * min (b + 1 - start / 64) 4
  reads_after start b offset r s t value remembered fast below is begun holds last so_far most other =
      elim (cases_lt b (start / 64 + 4)) [
        | inl p ↦ omega (arith, so_far, most, p, begun)
        | inr p ↦
            let same = same_offset start b value (omega (arith, p)) (omega (arith, p)) fast below holds in
            absurd (other (last (omega (arith, p)) ∙ same ∙ is))
      ]

  -- The blocks of 16 in a block of 512.
  pub SharesBlocks-from_shared : (base cell : ℕ) → base % 512 ≡ 0 → fast_limit h.trie_type ≤ base → base + 512 ≤ h.high_start
      → index2_cell h.trie_type index base ≡ Some cell
      → SharesBlocks of_number h (contents_of index values) cell
  SharesBlocks-from_shared base cell aligned from below two p q first second same =
      let most = coherent.within in
      let stand : (k : ℕ) → k < 32 → (base / 16 + k) * 16 ≡ base + k * 16 = λ k lt. omega (arith, aligned) in
      let offset : (k : ℕ) → k < 32 → small_offset h.trie_type index ((base / 16 + k) * 16) ≡ offset_in_block index cell k
      = λ k lt. let d : k * 16 / 16 ≡ k = omega arith in
      rw (stand k lt) (small_offset_at h.trie_type index base cell (k * 16) aligned (omega (arith, lt)) two
      ∙ ap (λ n. offset_in_block index cell n) d) in
      let sees : (k i : ℕ) → k < 32 → i < 16 → seen of_number h (contents_of index values) ((base / 16 + k) * 16 + i)
      ≡ cell_seen of_number h (contents_of index values) cell (k * 16 + i)
      = λ k i lt in_block. let d : (base / 16 + k) * 16 + i ≡ base + (k * 16 + i) = omega (arith, aligned) in
      rw d (seen-cell of_number h (contents_of index values) base {len = 512} aligned from (omega (arith, below, most)) (omega arith) two
      (k * 16 + i) (omega (arith, lt, in_block))) in
      let at_p = stand p first in
      let at_q = stand q second in
      sym (offset p first) ∙ (shares.small (base / 16 + p) (base / 16 + q)
      (omega (arith, at_p, from), omega (arith, at_p, first, below, most), omega (arith, at_p, first, below))
      (omega (arith, at_q, from), omega (arith, at_q, second, below, most), omega (arith, at_q, second, below))
      (λ i lt. same_answer ((base / 16 + p) * 16 + i) ((base / 16 + q) * 16 + i) (omega (arith, at_p, first, lt, below))
      (omega (arith, at_q, second, lt, below))
      (sees p i first lt ∙ same i lt ∙ sym (sees q i second lt))) ∙ offset q second)

  -- The blocks end with a whole block of 512, and the fast index with a whole block of 64.
  pub ends-aligned : (blocks_end h % 512 ≡ 0) × (fast_end h % 64 ≡ 0)
  ends-aligned =
      let high = coherent.aligned in
      let most = (fast_limit_most h.trie_type).1 in
      (omega (arith, high), omega (arith, high, most))

  -- Two blocks of 512.
  pub same_cell : (start d b : ℕ) (value : A) → fast_limit h.trie_type ≤ start → start ≤ d * 512 → d < b → b * 512 + 512 ≤ h.high_start
      → Holds (seen of_number h (contents_of index values)) start (b * 512 + 512) value
      → index2_cell h.trie_type index (d * 512) ≡ index2_cell h.trie_type index (b * 512)
  same_cell start d b value from begun before below holds =
      let most = coherent.within in
      shares.index2 d b (omega (arith, from, begun), omega (arith, before, below, most), omega (arith, before, below))
      (omega (arith, from, begun, before), omega (arith, below, most), omega (arith, below))
      (λ i lt. same_answer (d * 512 + i) (b * 512 + i) (omega (arith, lt, before, below)) (omega (arith, lt, below))
      (holds (d * 512 + i) (omega (arith, begun)) (omega (arith, before, lt))
      ∙ sym (holds (b * 512 + i) (omega (arith, begun, before)) (omega (arith, lt)))))
