-- A header that was written is read back.
use Rattle.std.proofs.Common.{◌≡◌, ℕ, ◌+◌, ◌*◌, ◌/◌, ◌%◌, ◌^◌, ◌<◌, ◌≤◌, List, ◌++◌, length, drop, refl, arith, ◌∙◌, ap}
use Rattle.std.specs.Prelude.{Some, Ok, nat_lt, nat_eq, true, false}
use Rattle.std.proofs.lemmas.Grind.{common_steps}
use Rattle.icu_trie_core.specs.declared.header.TrieType.{TrieType}
use Rattle.icu_trie_core.specs.declared.header.TrieType.TheVariants.{Fast, Small}
use Rattle.icu_trie_binary.specs.declared.header.BinaryHeader.{BinaryHeader}
use Rattle.icu_trie_binary.specs.declared.header.ValueWidth.{ValueWidth}
use Rattle.icu_trie_binary.specs.declared.header.ValueWidth.TheVariants.{Bits16, Bits32, Bits8}
use Rattle.icu_trie_binary.specs.BinaryHeader.{u16_at, signature_of, options_of, type_of, width_of, width_bytes, fields_of, header_of, stored_length, stored_header}
use Rattle.icu_trie_binary.specs.WrittenTrie.{type_code, width_code, options_for, header_bytes}

-- ---- the options by their bits
module _ (u n t w : ℕ) (small_null : n < 0x10) (small_type : t < 2) (small_width : w < 3) where
  pub options-data : (u * 0x1000 + n * 0x100 + t * 0x40 + w) / 0x1000 ≡ u
  options-data = omega (arith, small_null, small_type, small_width)

  pub options-null : (u * 0x1000 + n * 0x100 + t * 0x40 + w) / 0x100 % 0x10 ≡ n
  options-null = omega (arith, small_null, small_type, small_width)

  pub options-type : (u * 0x1000 + n * 0x100 + t * 0x40 + w) / 0x40 % 4 ≡ t
  options-type = omega (arith, small_null, small_type, small_width)

  pub options-width : (u * 0x1000 + n * 0x100 + t * 0x40 + w) % 8 ≡ w
  options-width = omega (arith, small_null, small_type, small_width)

  pub options-reserved : (u * 0x1000 + n * 0x100 + t * 0x40 + w) / 8 % 8 ≡ 0
  options-reserved = omega (arith, small_null, small_type, small_width)

type_code-small : (t : TrieType) → type_code t < 2
type_code-small Fast = omega arith
type_code-small Small = omega arith

width_code-small : (w : ValueWidth) → width_code w < 3
width_code-small Bits16 = omega arith
width_code-small Bits32 = omega arith
width_code-small Bits8 = omega arith

type_of-code : (o : ℕ) (t : TrieType) → o / 0x40 % 4 ≡ type_code t → type_of o ≡ Some t
type_of-code o Fast e = rw e refl
type_of-code o Small e = rw e refl

width_of-code : (o : ℕ) (w : ValueWidth) → o % 8 ≡ width_code w → width_of o ≡ Some w
width_of-code o Bits16 e = rw e refl
width_of-code o Bits32 e = rw e refl
width_of-code o Bits8 e = rw e refl

-- ---- a header without an error
pub header_of-ok : (b : List ℕ) (kind : TrieType) (width : ValueWidth) → 16 ≤ length b → signature_of b ≡ 0x54726933
    → type_of (options_of b) ≡ Some kind → width_of (options_of b) ≡ Some width → options_of b / 8 % 8 ≡ 0
    → header_of b ≡ Ok (fields_of b kind width)
unfolding header_of
header_of-ok b kind width long sig t w r =
    let l : nat_lt (length b) 16 ≡ false = grind (arith, common_steps) in
    rw (l, sig, t, w, r) refl

-- ---- a header that was written
--
-- It has 16 bytes, and the signature is first.
signature-back : (h : BinaryHeader) (rest : List ℕ) → signature_of (header_bytes h ++ rest) ≡ 0x54726933
unfolding header_bytes
signature-back h rest = refl

pub length-header_bytes : (h : BinaryHeader) (rest : List ℕ) → length (header_bytes h ++ rest) ≡ 16 + length rest
unfolding header_bytes
length-header_bytes h rest = omega arith

pub header_size : (h : BinaryHeader) → length (header_bytes h) ≡ 16
unfolding header_bytes
header_size h = refl

pub drop-header_bytes : (h : BinaryHeader) (rest : List ℕ) → drop 16 (header_bytes h ++ rest) ≡ rest
unfolding header_bytes
drop-header_bytes h rest = refl

module _ (h : BinaryHeader) (rest : List ℕ) (small_index : h.index_length < 2 ^ 16) (small_data : h.data_length < 2 ^ 20)
    (small_null3 : h.index3_null_offset < 2 ^ 16) (small_null : h.data_null_offset < 2 ^ 20)
    (small_start : h.shifted_high_start < 2 ^ 16) where
  null_bits : h.data_null_offset / 0x10000 < 0x10
  null_bits = omega (arith, small_null)

  options-small : options_for h < 2 ^ 16
  options-small = omega (arith, small_data, small_null, type_code-small h.trie_type, width_code-small h.value_width)

  -- Its options.
  options-back : options_of (header_bytes h ++ rest) ≡ options_for h
  unfolding header_bytes
  options-back = omega (arith, options-small)

  index-back : u16_at (header_bytes h ++ rest) 6 ≡ h.index_length
  unfolding header_bytes
  index-back = omega (arith, small_index)

  data-back : u16_at (header_bytes h ++ rest) 8 ≡ h.data_length % 0x10000
  unfolding header_bytes
  data-back = omega arith

  null3-back : u16_at (header_bytes h ++ rest) 10 ≡ h.index3_null_offset
  unfolding header_bytes
  null3-back = omega (arith, small_null3)

  null-back : u16_at (header_bytes h ++ rest) 12 ≡ h.data_null_offset % 0x10000
  unfolding header_bytes
  null-back = omega arith

  start-back : u16_at (header_bytes h ++ rest) 14 ≡ h.shifted_high_start
  unfolding header_bytes
  start-back = omega (arith, small_start)

  -- Its fields.
  fields-back : fields_of (header_bytes h ++ rest) h.trie_type h.value_width ≡ h
  fields-back =
      let t = type_code-small h.trie_type in let w = width_code-small h.value_width in
      let data_cells : options_of (header_bytes h ++ rest) / 0x1000 * 0x10000 + u16_at (header_bytes h ++ rest) 8 ≡ h.data_length =
      rw (options-back, data-back, options-data (h.data_length / 0x10000) _ _ _ null_bits t w) (omega arith) in
      let null : options_of (header_bytes h ++ rest) / 0x100 % 0x10 * 0x10000 + u16_at (header_bytes h ++ rest) 12 ≡ h.data_null_offset =
      rw (options-back, null-back, options-null (h.data_length / 0x10000) _ _ _ null_bits t w) (omega arith) in
      all_fields h _ _ _ _ _ index-back data_cells null3-back null start-back
    where
      all_fields : (g : BinaryHeader) (i d m n s : ℕ) → i ≡ g.index_length → d ≡ g.data_length → m ≡ g.index3_null_offset
          → n ≡ g.data_null_offset
          → s ≡ g.shifted_high_start
          → let made : BinaryHeader = record {
            trie_type = g.trie_type;
            value_width = g.value_width;
            index_length = i;
            data_length = d;
            index3_null_offset = m;
            data_null_offset = n;
            shifted_high_start = s;
          } in made ≡ g
      all_fields g i d m n s a b c e f = rw (a, b, c, e, f) refl

  -- Its contents.
  pub header_of-written : header_of (header_bytes h ++ rest) ≡ Ok h
  header_of-written =
      let t = type_code-small h.trie_type in let w = width_code-small h.value_width in
      let b = header_bytes h ++ rest in
      let long : 16 ≤ length b = omega (arith, length-header_bytes h rest) in
      let kind : options_of b / 0x40 % 4 ≡ type_code h.trie_type =
      rw options-back (options-type (h.data_length / 0x10000) _ _ _ null_bits t w) in
      let width : options_of b % 8 ≡ width_code h.value_width =
      rw options-back (options-width (h.data_length / 0x10000) _ _ _ null_bits t w) in
      let reserved : options_of b / 8 % 8 ≡ 0 = rw options-back (options-reserved (h.data_length / 0x10000) _ _ _ null_bits t w) in
      header_of-ok b h.trie_type h.value_width long (signature-back h rest) (type_of-code (options_of b) _ kind)
      (width_of-code (options_of b) _ width) reserved
      ∙ ap Ok fields-back

  -- Its number of bytes, if they are all there.
  pub stored_header-written : stored_length h ≤ 16 + length rest
      → stored_header (width_bytes h.value_width) (header_bytes h ++ rest) ≡ Ok (h, stored_length h)
  unfolding stored_header
  stored_header-written fits =
      let here : nat_lt (length (header_bytes h ++ rest)) (stored_length h) ≡ false =
      rw (length-header_bytes h rest) (grind (arith, common_steps)) in
      let same : nat_eq (width_bytes h.value_width) (width_bytes h.value_width) ≡ true = grind (arith, common_steps) in
      rw (header_of-written, same, here) refl
