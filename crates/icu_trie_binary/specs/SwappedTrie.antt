-- A trie in ICU's binary form from a big-endian machine, and the same trie in little-endian order.
use Rattle.std.specs.Prelude.{ℕ, zero, suc, ◌+◌, ◌*◌, ◌/◌, nat_lt, List, [], ◌++◌, length, take, drop, reverse, Option, if◌then◌else◌, ⊤}
use Rattle.icu_trie_binary.specs.BinaryHeader.{u16_at, options_of}
use Rattle.icu_trie_binary.specs.BinaryTrie.{IsWhyNotStored}
use Rattle.icu_trie_binary.specs.declared.error.SwappedError.{SwappedError}
use Rattle.icu_trie_binary.specs.declared.error.SwappedError.TheVariants.{Binary, Memory}

-- ---- groups of bytes
--
-- The first n groups of k bytes, one after another, each with its bytes reversed.
abbrev pub swapped_groups : ℕ → ℕ → List ℕ → List ℕ
swapped_groups k zero b = []
swapped_groups k (suc n) b = reverse (take k b) ++ swapped_groups k n (drop k b)

-- All whole groups of k bytes, each with its bytes reversed.
unfoldable pub swap_units : ℕ → List ℕ → List ℕ
swap_units k b = swapped_groups k (length b / k) b

-- ---- a trie
--
-- The header: a signature of four bytes, and six numbers of two bytes each.
unfoldable pub swapped_header : List ℕ → List ℕ
swapped_header b = swap_units 4 (take 4 b) ++ swap_units 2 (take 12 (drop 4 b))

-- The number of bytes of the index, according to the header.
abbrev pub index_said : List ℕ → ℕ
index_said header = 2 * u16_at header 6

-- The number of bytes of the data, according to the header, if values have `width` bytes.
abbrev pub data_said : ℕ → List ℕ → ℕ
data_said width header =
    width * (options_of header / 0x1000 * 0x10000 + u16_at header 8)

-- What follows a header: the cells of the index, of two bytes each, and the values.
abbrev pub swapped_cells : ℕ → List ℕ → List ℕ → List ℕ
swapped_cells width header b =
    swap_units 2 (take (index_said header) b)
    ++ swap_units width (take (data_said width header) (drop (index_said header) b))

-- The trie at the start of the bytes in the other order, without what follows it. Its values have
-- `width` bytes each. If there are too few bytes for a header, they are unchanged.
abbrev pub in_other_order : ℕ → List ℕ → List ℕ
in_other_order width b =
    if nat_lt (length b) 16 then b
    else swapped_header b ++ swapped_cells width (swapped_header b) (drop 16 b)

-- Why bytes are not such a trie: the first error of the bytes in the other order, or a failed
-- allocation.
abbrev pub IsWhyNotSwapped : {T : Type 0} → (List ℕ → Option T) → ℕ → (T → ℕ) → (ℕ → Option T)
    → List ℕ → SwappedError → Type 0
IsWhyNotSwapped unpack width number of_number b (Binary e) =
    IsWhyNotStored unpack width number of_number (in_other_order width b) e
IsWhyNotSwapped unpack width number of_number b Memory = ⊤
