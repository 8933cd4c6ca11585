-- The code point trie in bytes of ICU's binary form: the header, the index, the data, and what
-- follows. Cells have their lowest byte first.
use Rattle.std.specs.Prelude.{◌≡◌, ℕ, ◌+◌, ◌-◌, ◌*◌, ◌/◌, ◌^◌, ◌⊎◌, nat_lt, List, take, drop, slice_get, Option, Some, None, option_map, Ok, Err, if◌then◌else◌}
use Rattle.icu_zerovec.specs.Cells.{values_of, IsPacked, IsFault}
use Rattle.icu_zerovec.specs.PackedBytes.{number_of}
use Rattle.icu_zerovec.specs.declared.ule.UleError.TheVariants as packed_faults
use Rattle.icu_trie_core.specs.ValueNumbers.{fitting}
use Rattle.icu_trie_core.specs.declared.header.CodePointTrieHeader.{CodePointTrieHeader}
use Rattle.icu_trie_core.specs.declared.error.CodePointTrieError.{CodePointTrieError}
use Rattle.icu_trie.specs.Parts.{Parts, parts_fault}
use Rattle.icu_trie_binary.specs.BinaryHeader.{index_size, data_size, width_bytes, header_of, stored_header}
use Rattle.icu_trie_binary.specs.declared.header.BinaryHeader.{BinaryHeader}
use Rattle.icu_trie_binary.specs.declared.binary.AnyWidthTrie.{AnyWidthTrie}
use Rattle.icu_trie_binary.specs.declared.binary.AnyWidthTrie.TheVariants.{Bits8, Bits16, Bits32}
use Rattle.icu_trie_binary.specs.declared.error.BinaryError.{BinaryError}
use Rattle.icu_trie_binary.specs.declared.error.BinaryError.TheVariants.{Cell, Trie}

-- ---- index and data
--
-- The bytes of the index.
abbrev pub index_bytes : BinaryHeader → List ℕ → List ℕ
index_bytes h b = take (index_size h) (drop 16 b)

-- The bytes of the data.
abbrev pub data_bytes : BinaryHeader → List ℕ → List ℕ
data_bytes h b = take (data_size h) (drop (index_size h) (drop 16 b))

-- The cells of the index, of 16 bits each.
abbrev pub index_of : BinaryHeader → List ℕ → List ℕ
index_of h b = values_of (λ c. Some (number_of 2 c)) 2 (index_bytes h b)

-- ---- the trie
--
-- The index of the cell with the null value. The form has no field for the null value: it is the
-- cell at the offset of the data null block. If that offset is outside the data, there is no such
-- block, and the null value is the high value, the last cell but one
-- (UCPTRIE_HIGH_VALUE_NEG_DATA_OFFSET).
abbrev pub null_place : BinaryHeader → ℕ
null_place h =
    if nat_lt h.data_null_offset h.data_length then h.data_null_offset else h.data_length - 2

-- The number of a cell. If there is none, the data are empty, and no trie has them.
abbrev pub number_or_zero : Option ℕ → ℕ
number_or_zero (Some n) = n
number_or_zero None = 0

-- The high start, which is stored without its lowest 9 bits (UCPTRIE_SHIFT_2).
abbrev pub high_start_of : BinaryHeader → ℕ
high_start_of h = h.shifted_high_start * 0x200

module _ {T : Type 0} (unpack : List ℕ → Option T) (width : ℕ) (number : T → ℕ)
    (of_number : ℕ → Option T) where
  -- The values of the cells of the data.
  abbrev pub values_in : BinaryHeader → List ℕ → List T
  values_in h b = values_of unpack width (data_bytes h b)

  -- The header of the trie. Its null value is one of these values.
  abbrev pub trie_header : BinaryHeader → List T → CodePointTrieHeader
  trie_header h values = record {
    high_start = high_start_of h;
    shifted12_high_start = (high_start_of h + 0xfff) / 0x1000;
    index3_null_offset = h.index3_null_offset;
    data_null_offset = h.data_null_offset;
    null_value = number_or_zero (option_map number (slice_get values (null_place h)));
    trie_type = h.trie_type;
  }

  -- The trie in the bytes.
  abbrev pub trie_in : BinaryHeader → List ℕ → Parts T
  trie_in h b = record {
    header = trie_header h (values_in h b);
    index = index_of h b;
    values = values_in h b;
  }

  -- The first error of its parts.
  abbrev pub stored_fault : BinaryHeader → List ℕ → Option CodePointTrieError
  stored_fault h b =
      parts_fault of_number (trie_header h (values_in h b)) (index_of h b) (values_in h b)

  -- The bytes start with this trie, which takes `len` of them.
  pub record IsStored (b : List ℕ) (t : Parts T) (len : ℕ) : Type 0 where
    pub header : BinaryHeader
    pub reads : stored_header width b ≡ Ok (header, len)
    pub packed : IsPacked unpack width (data_bytes header b)
    pub no_fault : stored_fault header b ≡ None
    pub trie : t ≡ trie_in header b

  -- The first error after a header: a data cell is not a value, or the parts do not form a trie.
  abbrev pub IsTrieFault : BinaryHeader → List ℕ → BinaryError → Type 0
  IsTrieFault h b (Cell i) = IsFault unpack width (data_bytes h b) (packed_faults.Cell i)
  IsTrieFault h b (Trie e) =
      IsPacked unpack width (data_bytes h b) × (stored_fault h b ≡ Some e)
  IsTrieFault h b _ = ⊥

  -- The first error of bytes: that of the header, or else the one after it.
  abbrev pub IsWhyNotStored : List ℕ → BinaryError → Type 0
  IsWhyNotStored b e = (stored_header width b ≡ Err e)
      ⊎ ((r : BinaryHeader × ℕ) × (stored_header width b ≡ Ok r) × IsTrieFault r.0 b e)

-- ---- of any width
module _ (width : ℕ) where
  -- The bytes start with this trie of unsigned numbers of `width` bytes each.
  abbrev pub IsUnsignedStored : List ℕ → Parts ℕ → ℕ → Type 0
  IsUnsignedStored =
      IsStored (λ c. Some (number_of width c)) width (λ n. n) (fitting (2 ^ (8 * width)))

  -- The first error of bytes as such a trie.
  abbrev pub IsWhyNoUnsigned : List ℕ → BinaryError → Type 0
  IsWhyNoUnsigned =
      IsWhyNotStored (λ c. Some (number_of width c)) width (λ n. n) (fitting (2 ^ (8 * width)))

-- The bytes start with this trie, in its width.
abbrev pub IsAnyStored : List ℕ → AnyWidthTrie → ℕ → Type 0
IsAnyStored b (Bits8 t) len = IsUnsignedStored 1 b t len
IsAnyStored b (Bits16 t) len = IsUnsignedStored 2 b t len
IsAnyStored b (Bits32 t) len = IsUnsignedStored 4 b t len

-- The first error of bytes: that of the header, or else that of a trie of the header's width.
abbrev pub IsWhyNoneStored : List ℕ → BinaryError → Type 0
IsWhyNoneStored b e = (header_of b ≡ Err e)
    ⊎ ((h : BinaryHeader) × (header_of b ≡ Ok h)
    × IsWhyNoUnsigned (width_bytes h.value_width) b e)
