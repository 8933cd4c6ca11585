-- What is written for a trie in ICU's binary form (`ucptrie_toBinary`): the bytes, the trie that is
-- read from them, and why the form cannot store a trie.
use Rattle.std.specs.Prelude.{ℕ, ◌+◌, ◌*◌, ◌/◌, ◌%◌, nat_lt, nat_eq, not, ◌&&◌, ◌||◌, List, [], ◌∷◌, ◌++◌, length, slice_get, Option, Some, None, option_map, if◌then◌else◌}
use Rattle.std.specs.List.{flat_map}
use Rattle.icu_zerovec.specs.PackedBytes.{low_bytes}
use Rattle.icu_trie_core.specs.declared.header.TrieType.{TrieType}
use Rattle.icu_trie_core.specs.declared.header.TrieType.TheVariants.{Fast, Small}
use Rattle.icu_trie.specs.Parts.{Parts}
use Rattle.icu_trie_binary.specs.BinaryHeader.{width_bytes}
use Rattle.icu_trie_binary.specs.BinaryTrie.{null_place, number_or_zero}
use Rattle.icu_trie_binary.specs.declared.header.BinaryHeader.{BinaryHeader}
use Rattle.icu_trie_binary.specs.declared.header.ValueWidth.{ValueWidth}
use Rattle.icu_trie_binary.specs.declared.header.ValueWidth.TheVariants.{Bits16, Bits32, Bits8}
use Rattle.icu_trie_binary.specs.declared.error.WriteError.{WriteError}
use Rattle.icu_trie_binary.specs.declared.error.WriteError.TheVariants.{UnknownWidth, LongIndex, LongData, NullOffset, HighStart, NullValue}

-- ---- the header
--
-- The code of a type in the options (UCPTrieType).
abbrev pub type_code : TrieType → ℕ
type_code Fast = 0
type_code Small = 1

-- The code of a value width (UCPTrieValueWidth).
abbrev pub width_code : ValueWidth → ℕ
width_code Bits16 = 0
width_code Bits32 = 1
width_code Bits8 = 2

-- The width of values of 1, 2 or 4 bytes. The form has no other width: for any other number of
-- bytes the result is `Bits8`, whose values have 1 byte.
abbrev pub width_for : ℕ → ValueWidth
width_for width =
    if nat_eq width 2 then Bits16 else (if nat_eq width 4 then Bits32 else Bits8)

-- The options: bits 15 to 12 are bits 19 to 16 of the data length, bits 11 to 8 are bits 19 to 16
-- of the offset of the data null block, bits 7 and 6 are the type, bits 5 to 3 are 0, and bits 2 to
-- 0 are the value width.
abbrev pub options_for : BinaryHeader → ℕ
options_for h =
    h.data_length / 0x10000 * 0x1000 + h.data_null_offset / 0x10000 * 0x100
    + type_code h.trie_type * 0x40 + width_code h.value_width

-- The 16 bytes of a header: the signature `Tri3` (UCPTRIE_SIG), and six numbers of 16 bits, each
-- with its lowest byte first.
unfoldable pub header_bytes : BinaryHeader → List ℕ
header_bytes h =
    low_bytes 4 0x54726933 ++ (low_bytes 2 (options_for h) ++ (low_bytes 2 h.index_length
    ++ (low_bytes 2 (h.data_length % 0x10000) ++ (low_bytes 2 h.index3_null_offset
    ++ (low_bytes 2 (h.data_null_offset % 0x10000) ++ low_bytes 2 h.shifted_high_start)))))

-- ---- the index The cell that ICU's builder adds after an index of an odd length if values of 32
-- bits follow it, so that the offset of the values is a multiple of four bytes. No look-up in a
-- coherent trie reads this cell.
abbrev pub padding : ℕ → ℕ → List ℕ
padding width cells = if nat_eq width 4 && nat_eq (cells % 2) 1 then 0xffee ∷ [] else []

-- The index as it is written, in front of values of `width` bytes.
abbrev pub stored_index : ℕ → List ℕ → List ℕ
stored_index width index = index ++ padding width (length index)

-- ---- the trie: its values have `width` bytes each, and `number` is the number of a value
module _ {T : Type 0} (width : ℕ) (number : T → ℕ) where
  -- The header that is written.
  abbrev pub header_for : Parts T → BinaryHeader
  header_for t = record {
    trie_type = t.header.trie_type;
    value_width = width_for width;
    index_length = length (stored_index width t.index);
    data_length = length t.values;
    index3_null_offset = t.header.index3_null_offset;
    data_null_offset = t.header.data_null_offset;
    shifted_high_start = t.header.high_start / 0x200;
  }

  -- The number of the null value in the form: that of the cell at the offset of the data null
  -- block, or that of the high value if the offset is outside the data.
  abbrev pub null_number : Parts T → ℕ
  null_number t =
      number_or_zero (option_map number (slice_get t.values (null_place (header_for t))))

  -- The trie that the form stores. It differs from the trie in the cell after an index of an odd
  -- length, in the null value if the header names no block of the data, and in
  -- `shifted12_high_start`, which is computed from the high start. No look-up reads the last two.
  -- A look-up reads the first only if the trie has no cell for the code point, which never happens
  -- in a coherent trie.
  abbrev pub stored_form : Parts T → Parts T
  stored_form t = record {
    header = record {
      high_start = t.header.high_start;
      shifted12_high_start = (t.header.high_start + 0xfff) / 0x1000;
      index3_null_offset = t.header.index3_null_offset;
      data_null_offset = t.header.data_null_offset;
      null_value = null_number t;
      trie_type = t.header.trie_type;
    };
    index = stored_index width t.index;
    values = t.values;
  }

  -- The number of bytes that are written.
  abbrev pub written_length : Parts T → ℕ
  written_length t = 16 + 2 * length (stored_index width t.index) + width * length t.values

  -- Why the form cannot store a trie, the first reason of these: its values do not have 1, 2 or 4
  -- bytes; the index has more cells than 16 bits can count; the data or the offset of the data null
  -- block need more than 20 bits; the high start is not a multiple of 0x200, or has more than 25
  -- bits; the null value is not that of the block that the header names.
  abbrev pub why_not_written : Parts T → Option WriteError
  why_not_written t =
      if not (nat_eq (width_bytes (width_for width)) width) then Some UnknownWidth
      else (if nat_lt 0xFFFF (length (stored_index width t.index)) then Some LongIndex
      else (if nat_lt 0xFFFFF (length t.values) then Some LongData
      else (if nat_lt 0xFFFFF t.header.data_null_offset then Some NullOffset
      else (if not (nat_eq (t.header.high_start % 0x200) 0) || nat_lt 0x1FFFFFF t.header.high_start
      then Some HighStart
      else (if nat_lt t.header.data_null_offset (length t.values)
      && not (nat_eq t.header.null_value (null_number t)) then Some NullValue else None)))))

  -- Header and index as they are written.
  abbrev pub front_bytes : Parts T → List ℕ
  front_bytes t =
      header_bytes (header_for t) ++ flat_map (low_bytes 2) (stored_index width t.index)

  -- The bytes of a trie if each value has one encoding.
  abbrev pub binary_of : (T → List ℕ) → Parts T → List ℕ
  binary_of pack t = front_bytes t ++ flat_map pack t.values
