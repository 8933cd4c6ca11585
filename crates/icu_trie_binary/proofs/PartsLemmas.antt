-- The parts of a trie's binary form: they are read as the trie's stored form, and they are the
-- specified bytes.
use Rattle.std.proofs.Common.{◌≡◌, ℕ, ◌+◌, ◌*◌, ◌^◌, ◌<◌, List, ◌++◌, length, Option, Some, None, arith, sym, ◌∙◌, ap}
use Rattle.std.specs.Prelude.{is_none, false}
use Rattle.std.specs.List.{flat_map}
use Rattle.std.proofs.Math.Nat.{mul_comm}
use Rattle.std.proofs.lemmas.List.{length-append}
use Rattle.icu_zerovec.specs.Cells.{values_of, IsPacked}
use Rattle.icu_zerovec.specs.PackedBytes.{low_bytes, number_of}
use Rattle.icu_trie.specs.Parts.{Parts, parts_fault}
use Rattle.icu_trie_binary.specs.BinaryTrie.{IsStored}
use Rattle.icu_trie_binary.specs.WrittenTrie.{header_bytes, padding, stored_index, header_for, null_number, stored_form, written_length, why_not_written, front_bytes}
use Rattle.icu_trie_binary.proofs.StoredIndex.{length-packed, values_of-stored_index, length-stored_index, flat_map-stored_index}
use Rattle.icu_trie_binary.proofs.WrittenHeader.{header_size}
use Rattle.icu_trie_binary.proofs.WrittenLemmas.{stored}

module _ {T : Type 0} (unpack : List ℕ → Option T) (width : ℕ) (number : T → ℕ) (of_number : ℕ → Option T) (t : Parts T)
    (room : why_not_written width number t ≡ None) (small_null3 : t.header.index3_null_offset < 2 ^ 16)
    (whole : parts_fault of_number t.header t.index t.values ≡ None) (valued : is_none (of_number (null_number width number t)) ≡ false)
    (header index behind cells : List ℕ) (is_header : header ≡ header_bytes (header_for width number t))
    (packed_index : IsPacked (λ c. Some (number_of 2 c)) 2 index) (gives_index : t.index ≡ values_of (λ c. Some (number_of 2 c)) 2 index)
    (is_behind : behind ≡ flat_map (low_bytes 2) (padding width (length t.index)))
    (packed : IsPacked unpack width cells) (gives : t.values ≡ values_of unpack width cells) where
  long_index : length (index ++ behind) ≡ 2 * length (stored_index width t.index)
  long_index = ap (λ b. length (index ++ b)) is_behind ∙ length-stored_index width t.index index packed_index gives_index

  of_index : values_of (λ c. Some (number_of 2 c)) 2 (index ++ behind) ≡ stored_index width t.index
  of_index = ap (λ b. values_of (λ c. Some (number_of 2 c)) 2 (index ++ b)) is_behind
      ∙ values_of-stored_index width t.index index packed_index gives_index

  long_cells : length cells ≡ width * length t.values
  long_cells = length-packed unpack width cells t.values packed gives ∙ mul_comm (length t.values) width

  pub parts-length : 16 + length index + length behind + length cells ≡ written_length width number t
  parts-length = omega (arith, long_index, long_cells, length-append index behind)

  pub parts-header : length header ≡ 16
  parts-header = ap length is_header ∙ header_size (header_for width number t)

  pub parts-stored : (rest : List ℕ) → IsStored unpack width number of_number (header ++ ((index ++ behind) ++ (cells ++ rest)))
      (stored_form width number t) (16 + length index + length behind + length cells)
  parts-stored rest =
      rw (parts-length, is_header)
      (stored unpack width number of_number t room small_null3 whole valued (index ++ behind) cells rest long_index of_index long_cells
      packed (sym gives))

  pub parts-front : index ≡ flat_map (low_bytes 2) t.index → header ++ (index ++ behind) ≡ front_bytes width number t
  parts-front plain =
      ap (λ h. h ++ (index ++ behind)) is_header
      ∙ ap (λ i. header_bytes (header_for width number t) ++ i)
      (ap (λ b. index ++ b) is_behind ∙ flat_map-stored_index width t.index index packed_index gives_index plain)
