-- The values of the code points of two bytes in UTF-8, whose blocks are the first 32 of the fast index.
use Rattle.std.proofs.Common.{◌≡◌, ◌∙◌, ap, refl, ℕ, ◌+◌, ◌*◌, ◌/◌, ◌%◌, ◌<◌, ◌≤◌, List, [], length, slice_get, slice_index_or, Option, Some, None, arith, rules, inl, inr}
use Rattle.std.specs.Int.{w16, from_le_bytes}
use Rattle.std.proofs.lemmas.Option.{slice_get_cases}
use Rattle.icu_trie_core.specs.Contents.{contents_of}
use Rattle.icu_trie_core.specs.FastIndex.{IsWhole, fast_index_len}
use Rattle.icu_trie_core.specs.Format.{answer, fast_limit}
use Rattle.icu_trie_core.specs.declared.header.TrieType.{TrieType}
use Rattle.icu_trie_core.specs.declared.header.TrieType.TheVariants.{Fast, Small}
use Rattle.icu_trie_core.proofs.CallerLemmas.{block_inside, fast_answer}
use Rattle.icu_trie.specs.Parts.{Parts, parts_fault, trie_value}
use Rattle.icu_trie_text.specs.Inside.TwoBytes.{AreFirstOffsets}

blocks_there : (kind : TrieType) → 32 ≤ fast_index_len kind
blocks_there Fast = omega arith
blocks_there Small = omega arith

below_limit : (kind : TrieType) (c : ℕ) → c < 2048 → c < fast_limit kind
below_limit Fast c h = omega arith
below_limit Small c h = omega arith

module _ {T : Type 0} (of_number : ℕ → Option T) (t : Parts T) (sound : parts_fault of_number t.header t.index t.values ≡ None)
  where
    whole : IsWhole t.header.trie_type (contents_of t.index t.values)
    whole = search rules

    -- The index has the cells of these blocks.
    pub index_at_least : 32 ≤ length t.index
    index_at_least = let there = blocks_there t.header.trie_type in let fits = whole.0 in omega (arith, there, fits)

    module _ (cells : List (List ℕ)) (are : AreFirstOffsets t.index cells) (block place offset : ℕ) (two : block < 32) (small : place < 64)
        (read : offset ≡ from_le_bytes w16 (slice_index_or cells (block % 32) [])) where
      cell : slice_get t.index block ≡ Some offset
      cell = let same : block % 32 ≡ block = omega (arith, two) in rw (rw same at read) (are block two)

      -- The value is inside the data.
      pub two_bytes_inside : offset + place < length t.values
      two_bytes_inside =
          let there = blocks_there t.header.trie_type in
          let inside = block_inside t.header.trie_type t.index (length t.values) block offset whole.1 cell (omega (arith, two, there)) in
          omega (arith, inside, small)

      pub two_bytes_are : trie_value t (block * 64 + place) ≡ slice_get t.values (offset + place)
      two_bytes_are =
          let below : block * 64 + place < 2048 = omega (arith, two, small) in
          let own : (block * 64 + place) / 64 ≡ block = omega (arith, small) in
          let low : (block * 64 + place) % 64 ≡ place = omega (arith, small) in
          let known : slice_get t.index ((block * 64 + place) / 64) ≡ Some offset = rw own cell in
          let answered : answer t.header (contents_of t.index t.values) (block * 64 + place) ≡ slice_get t.values (offset + place) =
          fast_answer t.header t.index t.values (block * 64 + place) offset (omega (arith, below)) (below_limit t.header.trie_type _ below) known
          ∙ ap (λ k. slice_get t.values (offset + k)) low in
          rw answered (elim (slice_get_cases t.values (offset + place)).1 [
            | inl found ↦ rw found.2 refl
            | inr past ↦ let out = past.0 in absurd (omega (arith, out, two_bytes_inside))
          ])
