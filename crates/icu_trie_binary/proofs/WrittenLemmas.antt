-- A trie that was written is read as the form stores it.
use Rattle.std.proofs.Common.{◌≡◌, ℕ, ◌+◌, ◌*◌, ◌/◌, ◌%◌, ◌^◌, ◌<◌, ◌≤◌, List, ◌++◌, length, refl, arith, ap}
use Rattle.std.specs.Prelude.{Bool, Option, Some, None, is_none, Ok, nat_lt, nat_eq, true, false, not, ◌||◌, ◌&&◌, if◌then◌else◌}
use Rattle.std.proofs.lemmas.Grind.{common_steps}
use Rattle.std.proofs.lemmas.List.{take_at, drop_at, take-append-le, length-append}
use Rattle.icu_zerovec.specs.Cells.{values_of, IsPacked}
use Rattle.icu_zerovec.specs.PackedBytes.{number_of}
use Rattle.icu_trie_core.specs.FastIndex.{fast_index_len}
use Rattle.icu_trie_core.specs.declared.error.CodePointTrieError.TheVariants.{EmptyDataVector, InvalidNullValue, IndexTooShortForFastAccess, DataTooShortForFastAccess}
use Rattle.icu_trie_core.specs.declared.header.CodePointTrieHeader.{CodePointTrieHeader}
use Rattle.icu_trie.specs.Parts.{Parts, parts_fault}
use Rattle.icu_trie_binary.specs.declared.error.WriteError.TheVariants.{UnknownWidth, LongIndex, LongData, NullOffset, HighStart, NullValue}
use Rattle.icu_trie_binary.specs.declared.header.BinaryHeader.{BinaryHeader}
use Rattle.icu_trie_binary.specs.BinaryHeader.{index_size, data_size, width_bytes, stored_header, stored_length}
use Rattle.icu_trie_binary.specs.BinaryTrie.{index_bytes, data_bytes, trie_header, IsStored}
use Rattle.icu_trie_binary.specs.WrittenTrie.{header_bytes, width_for, padding, stored_index, header_for, null_number, stored_form, written_length, why_not_written}
use Rattle.icu_trie_binary.proofs.WrittenHeader.{drop-header_bytes, stored_header-written}

-- ---- index and data after a header
module _ (h : BinaryHeader) (index cells rest : List ℕ) (long_index : length index ≡ index_size h) where
  pub index_bytes-written : index_bytes h (header_bytes h ++ (index ++ (cells ++ rest))) ≡ index
  index_bytes-written = rw drop-header_bytes (take_at index _ _ long_index)

  pub data_bytes-written : length cells ≡ data_size h → data_bytes h (header_bytes h ++ (index ++ (cells ++ rest))) ≡ cells
  data_bytes-written e = rw (drop-header_bytes, drop_at index (cells ++ rest) (index_size h) long_index) (take_at cells rest _ e)

-- ---- parts without an error
pub first_faults : (a b c d : Bool)
    → (if a then Some EmptyDataVector else (if b then Some InvalidNullValue else (if c then Some IndexTooShortForFastAccess
    else (if d then Some DataTooShortForFastAccess else None)))) ≡ None
    → (a ≡ false) × (b ≡ false) × (c ≡ false) × (d ≡ false)
first_faults true b c d e = cc
first_faults false true c d e = cc
first_faults false false true d e = cc
first_faults false false false true e = cc
first_faults false false false false e = (refl, refl, refl, refl)

-- Cells after the index cause no error, nor does another null value that is the number of a value.
pub fault-padded : {T : Type 0} (of_number : ℕ → Option T) (h g : CodePointTrieHeader) (index behind : List ℕ) (values : List T)
    → g.trie_type ≡ h.trie_type → is_none (of_number g.null_value) ≡ false
    → parts_fault of_number h index values ≡ None → parts_fault of_number g (index ++ behind) values ≡ None
fault-padded of_number h g index behind values same_type valued e =
    let f = first_faults _ _ _ _ e in
    let short : nat_lt (length index) (fast_index_len h.trie_type) ≡ false = f.2 in
    let whole : fast_index_len h.trie_type ≤ length index = grind (arith, common_steps) in
    let long : nat_lt (length (index ++ behind)) (fast_index_len h.trie_type) ≡ false = rw length-append (grind (arith, common_steps)) in
    rw (same_type, f.0, valued, long, take-append-le (fast_index_len h.trie_type) index behind whole, f.3) refl

-- ---- what is known of a trie that the form can store
first_causes : (a b c d e f : Bool)
    → (if a then Some UnknownWidth else (if b then Some LongIndex else (if c then Some LongData else (if d then Some NullOffset
    else (if e then Some HighStart else (if f then Some NullValue else None)))))) ≡ None
    → (a ≡ false) × (b ≡ false) × (c ≡ false) × (d ≡ false) × (e ≡ false) × (f ≡ false)
first_causes true b c d e f h = cc
first_causes false true c d e f h = cc
first_causes false false true d e f h = cc
first_causes false false false true e f h = cc
first_causes false false false false true f h = cc
first_causes false false false false false true h = cc
first_causes false false false false false false h = (refl, refl, refl, refl, refl, refl)

module _ {T : Type 0} (width : ℕ) (number : T → ℕ) (t : Parts T) (room : why_not_written width number t ≡ None) where
  pub same_width : width_bytes (width_for width) ≡ width
  same_width = let f : not (nat_eq (width_bytes (width_for width)) width) ≡ false = (first_causes _ _ _ _ _ _ room).0 in
      grind (arith, common_steps)

  pub index_fits : length (stored_index width t.index) < 2 ^ 16
  index_fits = let f : nat_lt 0xFFFF (length (stored_index width t.index)) ≡ false = (first_causes _ _ _ _ _ _ room).1 in
      grind (arith, common_steps)

  pub data_fit : length t.values < 2 ^ 20
  data_fit = let f : nat_lt 0xFFFFF (length t.values) ≡ false = (first_causes _ _ _ _ _ _ room).2 in grind (arith, common_steps)

  pub null_offset_fits : t.header.data_null_offset < 2 ^ 20
  null_offset_fits = let f : nat_lt 0xFFFFF t.header.data_null_offset ≡ false = (first_causes _ _ _ _ _ _ room).3 in
      grind (arith, common_steps)

  pub high_start_fits : (t.header.high_start / 0x200 * 0x200 ≡ t.header.high_start) × (t.header.high_start / 0x200 < 2 ^ 16)
  high_start_fits =
      let f : (not (nat_eq (t.header.high_start % 0x200) 0) || nat_lt 0x1FFFFFF t.header.high_start) ≡ false =
      (first_causes _ _ _ _ _ _ room).4 in
      let both = neither _ _ f in
      let a : not (nat_eq (t.header.high_start % 0x200) 0) ≡ false = both.0 in
      let b : nat_lt 0x1FFFFFF t.header.high_start ≡ false = both.1 in
      let whole : t.header.high_start % 0x200 ≡ 0 = grind (arith, common_steps) in
      let low : t.header.high_start ≤ 0x1FFFFFF = grind (arith, common_steps) in
      (omega arith, omega arith)
    where
      neither : (a b : Bool) → (a || b) ≡ false → (a ≡ false) × (b ≡ false)
      neither true b e = cc
      neither false b e = (refl, e)

  -- If the header names a block, the null value is that of the form.
  pub null_fits : t.header.data_null_offset < length t.values → t.header.null_value ≡ null_number width number t
  null_fits l =
      let f : (nat_lt t.header.data_null_offset (length t.values) && not (nat_eq t.header.null_value (null_number width number t)))
      ≡ false = (first_causes _ _ _ _ _ _ room).5 in
      grind (arith, common_steps)

-- ---- the trie
module _ {T : Type 0} (unpack : List ℕ → Option T) (width : ℕ) (number : T → ℕ) (of_number : ℕ → Option T) (t : Parts T)
    (room : why_not_written width number t ≡ None) (small_null3 : t.header.index3_null_offset < 2 ^ 16)
    (whole : parts_fault of_number t.header t.index t.values ≡ None) (valued : is_none (of_number (null_number width number t)) ≡ false)
    (index cells rest : List ℕ) (long_index : length index ≡ 2 * length (stored_index width t.index))
    (of_index : values_of (λ c. Some (number_of 2 c)) 2 index ≡ stored_index width t.index)
    (long_cells : length cells ≡ width * length t.values) (packed : IsPacked unpack width cells)
    (of_cells : values_of unpack width cells ≡ t.values) where
  here_index : index_bytes (header_for width number t) (header_bytes (header_for width number t) ++ (index ++ (cells ++ rest))) ≡ index
  here_index = index_bytes-written (header_for width number t) index cells rest long_index

  here_data : data_bytes (header_for width number t) (header_bytes (header_for width number t) ++ (index ++ (cells ++ rest))) ≡ cells
  here_data = data_bytes-written (header_for width number t) index cells rest long_index (rw (same_width width number t room) long_cells)

  length-written : stored_length (header_for width number t) ≡ written_length width number t
  length-written = ap (λ w. 16 + 2 * length (stored_index width t.index) + w * length t.values) (same_width width number t room)

  header-written : stored_header width (header_bytes (header_for width number t) ++ (index ++ (cells ++ rest)))
      ≡ Ok (header_for width number t, written_length width number t)
  header-written =
      let fits : stored_length (header_for width number t) ≤ 16 + length (index ++ (cells ++ rest)) =
      omega (arith, length-written, length-append index (cells ++ rest), length-append cells rest, long_index, long_cells) in
      let start = high_start_fits width number t room in
      let said = stored_header-written (header_for width number t) (index ++ (cells ++ rest)) (index_fits width number t room)
      (data_fit width number t room) small_null3
      (null_offset_fits width number t room) start.1 fits in
      rw (same_width width number t room) at said

  pub stored : IsStored unpack width number of_number (header_bytes (header_for width number t) ++ (index ++ (cells ++ rest)))
      (stored_form width number t) (written_length width number t)
  stored = record {
    header = header_for width number t;
    reads = header-written;
    packed = rw here_data packed;
    no_fault = rw (here_data, here_index, of_index, of_cells)
        (fault-padded of_number t.header (trie_header unpack width number of_number (header_for width number t) t.values) t.index
        (padding width (length t.index)) t.values refl valued whole);
    trie = rw (here_data, here_index, of_index, of_cells, (high_start_fits width number t room).0) refl;
  }
