-- The header of a code point trie in ICU's binary form: UCPTrieHeader of ucptrie_impl.h, 16 bytes.
-- Its numbers have their lower byte first.
use Rattle.std.specs.Prelude.{ℕ, ◌+◌, ◌*◌, ◌/◌, ◌%◌, nat_lt, nat_eq, List, length, slice_index, Option, Some, None, Result, Ok, Err, if◌then◌else◌}
use Rattle.std.specs.Option.{ok_or}
use Rattle.icu_zerovec.specs.FirstFault.{and_then}
use Rattle.icu_trie_core.specs.declared.header.TrieType.{TrieType}
use Rattle.icu_trie_core.specs.declared.header.TrieType.TheVariants.{Fast, Small}
use Rattle.icu_trie_binary.specs.declared.header.BinaryHeader.{BinaryHeader}
use Rattle.icu_trie_binary.specs.declared.header.ValueWidth.{ValueWidth}
use Rattle.icu_trie_binary.specs.declared.header.ValueWidth.TheVariants.{Bits16, Bits32, Bits8}
use Rattle.icu_trie_binary.specs.declared.error.BinaryError.{BinaryError}
use Rattle.icu_trie_binary.specs.declared.error.BinaryError.TheVariants.{Short, Swapped, Signature, UnknownType, UnknownWidth, Reserved, OtherWidth, CutOff}

-- ---- the fields, by their offsets
--
-- The 16-bit number whose lower byte is byte i.
abbrev pub u16_at : List ℕ → ℕ → ℕ
u16_at b i = slice_index b i + 0x100 * slice_index b (i + 1)

-- The signature: 32 bits at offset 0.
abbrev pub signature_of : List ℕ → ℕ
signature_of b = u16_at b 0 + 0x10000 * u16_at b 2

-- The options: bits 15 to 12 are bits 19 to 16 of the data length, bits 11 to 8 are bits 19 to 16
-- of the offset of the data null block, bits 7 and 6 are the type, bits 5 to 3 are reserved, and
-- bits 2 to 0 are the value width.
abbrev pub options_of : List ℕ → ℕ
options_of b = u16_at b 4

-- The type in the options (UCPTrieType).
abbrev pub type_of : ℕ → Option TrieType
type_of options =
    if nat_eq (options / 0x40 % 4) 0 then Some Fast
    else (if nat_eq (options / 0x40 % 4) 1 then Some Small else None)

-- The value width in the options (UCPTrieValueWidth).
abbrev pub width_of : ℕ → Option ValueWidth
width_of options =
    if nat_eq (options % 8) 0 then Some Bits16
    else (if nat_eq (options % 8) 1 then Some Bits32
    else (if nat_eq (options % 8) 2 then Some Bits8 else None))

-- The number of bytes of a value.
abbrev pub width_bytes : ValueWidth → ℕ
width_bytes Bits16 = 2
width_bytes Bits32 = 4
width_bytes Bits8 = 1

-- All fields, with this type and this width.
abbrev pub fields_of : List ℕ → TrieType → ValueWidth → BinaryHeader
fields_of b kind width = record {
  trie_type = kind;
  value_width = width;
  index_length = u16_at b 6;
  data_length = options_of b / 0x1000 * 0x10000 + u16_at b 8;
  index3_null_offset = u16_at b 10;
  data_null_offset = options_of b / 0x100 % 0x10 * 0x10000 + u16_at b 12;
  shifted_high_start = u16_at b 14;
}

-- ---- the contents of a header, or its first error
--
-- There are at least 16 bytes, and they start with the signature `Tri3` (UCPTRIE_SIG).
abbrev pub signed : List ℕ → Result (Unit {0}) BinaryError
signed b =
    if nat_lt (length b) 16 then Err Short
    else (if nat_eq (signature_of b) 0x54726933 then Ok tt
    else (if nat_eq (signature_of b) 0x33697254 then Err Swapped else Err Signature))

-- The header: it has the signature, a known type and a known width, and its reserved bits are 0.
unfoldable pub header_of : List ℕ → Result BinaryHeader BinaryError
header_of b =
    and_then (signed b) (λ _.
    and_then (ok_or (type_of (options_of b)) UnknownType) (λ kind.
    and_then (ok_or (width_of (options_of b)) UnknownWidth) (λ width.
    if nat_eq (options_of b / 8 % 8) 0 then Ok (fields_of b kind width) else Err Reserved)))

-- The number of bytes of the index.
abbrev pub index_size : BinaryHeader → ℕ
index_size h = 2 * h.index_length

-- The number of bytes of the data.
abbrev pub data_size : BinaryHeader → ℕ
data_size h = width_bytes h.value_width * h.data_length

-- The number of bytes of header, index and data (`pActualLength` of ucptrie_openFromBinary).
abbrev pub stored_length : BinaryHeader → ℕ
stored_length h = 16 + index_size h + data_size h

-- The header of a trie whose values have `width` bytes and whose cells are all present, and its
-- stored length.
unfoldable pub stored_header : ℕ → List ℕ → Result (BinaryHeader × ℕ) BinaryError
stored_header width b =
    and_then (header_of b) (λ h.
    if nat_eq (width_bytes h.value_width) width
    then (if nat_lt (length b) (stored_length h) then Err CutOff else Ok (h, stored_length h))
    else Err OtherWidth)
