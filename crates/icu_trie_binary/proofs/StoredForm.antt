-- A trie and the stored form that is read back: look-ups, coherence, and when both are equal.
use Rattle.std.proofs.Common.{◌≡◌, ℕ, ◌+◌, ◌/◌, ◌*◌, ◌<◌, ◌≤◌, List, [], ◌++◌, length, Option, Some, None, refl, sym, ◌∙◌, ap}
use Rattle.std.specs.Prelude.{Err, IsSome, Ok, Result, is_none, false}
use Rattle.std.proofs.lemmas.List.{append-nil}
use Rattle.icu_trie.specs.Parts.{Parts, parts_fault}
use Rattle.icu_trie.specs.Ranges.{answers, IsCoherentTrie}
use Rattle.icu_trie_core.specs.Format.{fast_limit, index2_cell}
use Rattle.icu_trie_binary.specs.BinaryTrie.{IsStored, trie_in}
use Rattle.icu_trie_binary.specs.declared.error.BinaryError.{BinaryError}
use Rattle.icu_trie_binary.specs.declared.header.BinaryHeader.{BinaryHeader}
use Rattle.icu_trie_binary.specs.WrittenTrie.{padding, null_number, stored_form, why_not_written}
use Rattle.icu_trie_binary.proofs.PaddedAnswers.{keeps_answer}
use Rattle.icu_trie_binary.proofs.PaddedCoherence.{coherent-padded, coherent-far}
use Rattle.icu_trie_binary.proofs.WrittenLemmas.{first_faults, null_fits}

some_from_none : {A : Type 0} (o : Option A) → is_none o ≡ false → IsSome o
some_from_none None h = cc
some_from_none (Some x) h = refl

-- The header that was read, or h if none was.
abbrev header_or : BinaryHeader → Result (BinaryHeader × ℕ) BinaryError → BinaryHeader
header_or h (Ok read) = read.0
header_or h (Err e) = h

-- Bytes start with at most one trie.
pub stored-one : {T : Type 0} (width : ℕ) (number : T → ℕ) (unpack : List ℕ → Option T) (of_number : ℕ → Option T) (b : List ℕ)
    (u v : Parts T) (m n : ℕ) → IsStored unpack width number of_number b u m → IsStored unpack width number of_number b v n → v ≡ u
stored-one width number unpack of_number b u v m n first second =
    let header : second.header ≡ first.header = ap (header_or second.header) (sym second.reads ∙ first.reads) in
    second.trie ∙ ap (λ h. trie_in unpack width number of_number h b) header ∙ sym first.trie

module _ {T : Type 0} (width : ℕ) (number : T → ℕ) (t : Parts T) where
  -- If the trie has a value for c, its stored form has the same value.
  pub answers-stored : (c : ℕ) (x : T) → answers t c ≡ Some x → answers (stored_form width number t) c ≡ Some x
  answers-stored c x e = keeps_answer t.index (padding width (length t.index)) t.header (stored_form width number t).header t.values c refl
      refl x e

  -- If bytes start with the stored form, any trie that is read from them has the values of the
  -- trie.
  pub answers-read : (unpack : List ℕ → Option T) (of_number : ℕ → Option T) (b : List ℕ) (u : Parts T) (m n : ℕ)
      → IsStored unpack width number of_number b (stored_form width number t) n → IsStored unpack width number of_number b u m
      → (c : ℕ) (x : T) → answers t c ≡ Some x → answers u c ≡ Some x
  answers-read unpack of_number b u m n stored read c x e =
      ap (λ v. answers v c) (stored-one width number unpack of_number b (stored_form width number t) u n m stored read)
      ∙ answers-stored c x e

  -- If the header names a block of the data, the stored form of a coherent trie is coherent.
  pub coherent-stored : (of_number : ℕ → Option T) → why_not_written width number t ≡ None → t.header.data_null_offset < length t.values
      → parts_fault of_number t.header t.index t.values ≡ None → IsCoherentTrie of_number t
      → IsCoherentTrie of_number (stored_form width number t)
  coherent-stored of_number room named whole good =
      coherent-padded of_number t.header (stored_form width number t).header t.index (padding width (length t.index)) t.values refl refl
      refl refl good
      (sym (null_fits width number t room named)) (some_from_none _ (first_faults _ _ _ _ whole).1)

  -- The same if bytes start with the stored form.
  pub coherent-stored_in : (unpack : List ℕ → Option T) (of_number : ℕ → Option T) (b : List ℕ) (n : ℕ)
      → IsStored unpack width number of_number b (stored_form width number t) n → why_not_written width number t ≡ None
      → t.header.data_null_offset < length t.values → IsCoherentTrie of_number t → IsCoherentTrie of_number (stored_form width number t)
  coherent-stored_in unpack of_number b n stored room named good =
      let fits : t.header.null_value ≡ null_number width number t = null_fits width number t room named in
      let fault = ap (λ (p : Parts T). parts_fault of_number p.header p.index p.values) stored.trie ∙ stored.no_fault in
      let valued : IsSome (of_number (null_number width number t)) = some_from_none _ (first_faults _ _ _ _ fault).1 in
      coherent-padded of_number t.header (stored_form width number t).header t.index (padding width (length t.index)) t.values refl refl
      refl refl good (sym fits) (rw fits valued)

  -- The same if the header names no block of the data, and no index-2 cell is the null index-3 offset.
  pub coherent-stored_far : (of_number : ℕ → Option T) → length t.values ≤ t.header.data_null_offset
      → ((b : ℕ) → fast_limit t.header.trie_type ≤ b * 512 → b * 512 < t.header.high_start
      → index2_cell t.header.trie_type t.index (b * 512) ≡ Some t.header.index3_null_offset → ⊥)
      → IsCoherentTrie of_number t → IsCoherentTrie of_number (stored_form width number t)
  coherent-stored_far of_number far no_512 good =
      coherent-far of_number t.header (stored_form width number t).header t.index (padding width (length t.index)) t.values refl refl
      refl refl good far no_512

  -- The stored form is the trie itself if nothing is added after the index and the header has the
  -- fields of the form.
  pub stored_form-same : padding width (length t.index) ≡ [] → t.header.shifted12_high_start ≡ (t.header.high_start + 0xfff) / 0x1000
      → t.header.null_value ≡ null_number width number t → stored_form width number t ≡ t
  stored_form-same none shifted null = made _ _ _ (sym shifted) (sym null) (ap (λ p. t.index ++ p) none ∙ append-nil t.index)
    where
      made : (s n : ℕ) (index : List ℕ) → s ≡ t.header.shifted12_high_start → n ≡ t.header.null_value → index ≡ t.index
          → let one : Parts T = record {
            header = record {
              high_start = t.header.high_start;
              shifted12_high_start = s;
              index3_null_offset = t.header.index3_null_offset;
              data_null_offset = t.header.data_null_offset;
              null_value = n;
              trie_type = t.header.trie_type;
            };
            index = index;
            values = t.values;
          } in one ≡ t
      made s n index a b c = rw (a, b, c) refl
