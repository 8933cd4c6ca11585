-- Where the index and the data of a trie are in bytes, and what the fields of the trie are.
use Rattle.std.proofs.Common.{◌≡◌, ◌∙◌, refl, sym, ap, subst, ℕ, ◌+◌, ◌-◌, ◌*◌, ◌/◌, ◌%◌, ◌≤◌, Bool, true, false, List, length, take, drop, Option, Some, arith}
use Rattle.std.specs.Prelude.{Result, Ok, Err, nat_eq, nat_lt, if◌then◌else◌}
use Rattle.std.proofs.lemmas.Bool.{eqb-true, ltb-false}
use Rattle.std.proofs.lemmas.List.{drop-drop, length-drop, length-take-le}
use Rattle.icu_zerovec.specs.Cells.{values_of}
use Rattle.icu_zerovec.specs.FirstFault.{and_then}
use Rattle.icu_zerovec.specs.PackedBytes.{number_of}
use Rattle.icu_trie.specs.Parts.{Parts}
use Rattle.icu_trie_core.specs.Format.{fast_limit}
use Rattle.icu_trie_core.specs.declared.header.CodePointTrieHeader.{CodePointTrieHeader}
use Rattle.icu_trie_core.specs.declared.header.TrieType.{TrieType}
use Rattle.icu_trie_core.specs.declared.header.TrieType.TheVariants.{Fast, Small}
use Rattle.icu_trie_binary.specs.BinaryHeader.{data_size, header_of as read_header, index_size, stored_header, stored_length, width_bytes}
use Rattle.icu_trie_binary.specs.BinaryTrie.{index_bytes, IsStored, IsUnsignedStored}
use Rattle.icu_trie_binary.specs.declared.error.BinaryError.{BinaryError}
use Rattle.icu_trie_binary.specs.declared.error.BinaryError.TheVariants.{CutOff, OtherWidth}
use Rattle.icu_collections_c.specs.declared.tries.Trie.{Trie}
use Rattle.icu_collections_c.specs.BytesTrie.{IsSoundOf, cells_of, parts_of, type_of, value_width}
use Rattle.icu_collections_c.specs.Opening.{IsOpened}
use Rattle.icu_collections_c.proofs.CellLemmas.{length-values_of}

-- A header h that was read, whose trie takes n of the bytes.
record Reads {H : Type 0} (width_of stored : H → ℕ) (w : ℕ) (b : List ℕ) (h : H) (n : ℕ) : Type 0 where
  width : width_of h ≡ w
  within : stored h ≤ length b
  size : n ≡ stored h

module _ {H : Type 0} where
  first_of : Result (H × ℕ) BinaryError → H → H
  first_of (Ok p) h = p.0
  first_of (Err e) h = h

  second_of : Result (H × ℕ) BinaryError → ℕ → ℕ
  second_of (Ok p) n = p.1
  second_of (Err e) n = n

  -- The result of two tests.
  abbrev tests : Bool → Bool → H × ℕ → Result (H × ℕ) BinaryError
  tests x y p = if x then (if y then Err CutOff else Ok p) else Err OtherWidth

  tested : (width_of stored : H → ℕ) (x y : Bool) (g h : H) (n w : ℕ) (b : List ℕ) → nat_eq (width_of g) w ≡ x
      → nat_lt (length b) (stored g) ≡ y
      → tests x y (g, stored g) ≡ Ok (h, n) → Reads width_of stored w b h n
  unfolding first_of second_of
  tested width_of stored false y g h n w b p q e = cc
  tested width_of stored true true g h n w b p q e = cc
  tested width_of stored true false g h n w b p q e =
      let same : g ≡ h = ap (λ r. first_of r g) e in
      let many : stored g ≡ n = ap (λ r. second_of r n) e in
      let P : H → Type 0 = λ k. Reads width_of stored w b k n in
      subst P same (record { width = eqb-true _ _ p; within = ltb-false _ _ q; size = sym many })

  reads_of : (r : Result H BinaryError) (width_of stored : H → ℕ) (w n : ℕ) (b : List ℕ) (h : H)
      → and_then {B = H × ℕ} r (λ g. tests (nat_eq (width_of g) w) (nat_lt (length b) (stored g)) (g, stored g)) ≡ Ok (h, n)
      → Reads width_of stored w b h n
  reads_of (Err x) width_of stored w n b h e = cc
  reads_of (Ok g) width_of stored w n b h e = tested width_of stored _ _ g h n w b refl refl e

-- The index and the values in n bytes, by how many cells the index has.
pub record Places {T : Type 0} (unpack : List ℕ → Option T) (w : ℕ) (b index : List ℕ) (values : List T) (n : ℕ) : Type 0 where
  pub within : 16 + 2 * length index ≤ n
  pub fits : n ≤ length b
  pub index_whole : length (take (16 + 2 * length index - 16) (drop 16 b)) % 2 ≡ 0
  pub values_whole : length (take (n - (16 + 2 * length index)) (drop (16 + 2 * length index) b)) % w ≡ 0
  pub index_read : values_of (λ c. Some (number_of 2 c)) 2 (take (16 + 2 * length index - 16) (drop 16 b)) ≡ index
  pub values_read : values_of unpack w (take (n - (16 + 2 * length index)) (drop (16 + 2 * length index) b)) ≡ values

module _ {T : Type 0} (unpack : List ℕ → Option T) (w : ℕ) (number : T → ℕ) (of_number : ℕ → Option T) where
  pub places-stored : (b : List ℕ) (t : Parts T) (n : ℕ) → IsStored unpack w number of_number b t n → Places unpack w b t.index t.values n
  unfolding stored_header
  places-stored b t n s =
      let h = s.header in
      let reads = reads_of (read_header b) (λ g. width_bytes g.value_width) stored_length w n b h s.reads in
      let is = ap (λ (p : Parts T). p.index) s.trie in
      let has = ap (λ (p : Parts T). p.values) s.trie in
      let long : length (index_bytes h b) ≡ index_size h =
      length-take-le (index_size h) (drop 16 b) (omega (arith, reads.within, length-drop 16 b)) in
      let count : length t.index ≡ index_size h / 2 =
      ap length is ∙ length-values_of (λ c. Some (number_of 2 c)) 2 (λ _. refl) (index_bytes h b) ∙ ap (λ k. k / 2) long in
      let whole : 2 * length t.index ≡ index_size h = omega (arith, count) in
      let from : 16 + 2 * length t.index - 16 ≡ index_size h = omega (arith, whole) in
      let left : n - (16 + 2 * length t.index) ≡ data_size h = omega (arith, reads.size, whole) in
      let far : 16 + 2 * length t.index ≡ index_size h + 16 = omega (arith, whole) in
      let past : drop (index_size h) (drop 16 b) ≡ drop (index_size h + 16) b =
      drop-drop (index_size h) 16 b ∙ ap (λ k. drop k b) (omega arith) in
      record {
        within = omega (arith, reads.size, whole);
        fits = omega (arith, reads.size, reads.within);
        index_whole = rw (from, long) (omega arith);
        values_whole = rw (left, far) (ap (λ d. length (take (data_size h) d) % w) (sym past) ∙ s.packed.whole);
        index_read = rw from (sym is);
        values_read = rw (left, far) (ap (λ d. values_of unpack w (take (data_size h) d)) (sym past) ∙ sym has);
      }

-- The trie that C gets is the one that was found.
pub opened-kept : (width : ℕ) (b : List ℕ) (kept : Trie) (t : Parts ℕ) (n : ℕ) → value_width width ≡ width → IsUnsignedStored width b t n
    → parts_of width kept ≡ t → IsSoundOf width kept → kept.fast_limit ≡ fast_limit t.header.trie_type
    → kept.width ≡ width → kept.size ≡ n → IsOpened b kept
opened-kept width b kept t n one stored parts sound limit is many =
    let P : ℕ → Type 0 = λ k. IsSoundOf k kept in
    record {
      width = rw is one;
      limit = limit ∙ ap (λ (p : Parts ℕ). fast_limit p.header.trie_type) (sym parts);
      stored = rw (is, parts, many) stored;
      sound = subst P (sym is) sound;
    }

-- The fast limit determines the type of a trie.
pub type-of_limit : (kind : TrieType) → type_of (fast_limit kind) ≡ kind
type-of_limit Fast = refl
type-of_limit Small = refl

-- Its parts determine a trie.
pub parts-told : {T : Type 0} (unpack : List ℕ → Option T) (w : ℕ) (header : CodePointTrieHeader) (index values : List ℕ) (t : Parts T)
    → header ≡ t.header → cells_of 2 index ≡ t.index
    → values_of unpack w values ≡ t.values
    → (let p : Parts T = record { header = header; index = cells_of 2 index; values = values_of unpack w values } in p) ≡ t
parts-told unpack w header index values t h i v = rw (h, i, v) refl
