-- If the header of a built trie names no block of the data, no block of 512 is named as null.
use Rattle.std.proofs.Common.{◌≡◌, ◌∙◌, sym, ap, ℕ, ◌+◌, ◌*◌, ◌%◌, ◌<◌, ◌≤◌, inl, inr, length, slice_get, Option, Some, None, arith}
use Rattle.std.proofs.lemmas.Option.{slice_get_past}
use Rattle.icu_trie.specs.Parts.{Parts}
use Rattle.icu_trie.specs.Ranges.{answers}
use Rattle.icu_trie_core.specs.Format.{fast_limit, fast_offset, index2_cell, small_offset}
use Rattle.icu_trie_core.specs.declared.header.TrieType.{TrieType}
use Rattle.icu_trie_core.specs.declared.header.TrieType.TheVariants.{Fast, Small}
use Rattle.icu_trie_core.proofs.CallerLemmas.{fast_answer, small_answer}
use Rattle.icu_trie_builder.specs.Built.{IsWellBuilt}
use Rattle.icu_trie_builder.specs.MapAnswers.{AnswersMap}
use Rattle.icu_trie_builder.specs.NullBlock.{HoldsOne, NamesNull, SomeHoldsOne}
use Rattle.icu_trie_builder.proofs.RangesOfMap.{answer-of-map}

limit-most : (kind : TrieType) → fast_limit kind ≤ 0x10000
limit-most Fast = omega arith
limit-most Small = omega arith

same_values : {T : Type 0} {x y : T} → Some x ≡ Some y → x ≡ y
same_values e = cc

module _ {T : Type 0} (of_number : ℕ → Option T) (number : T → ℕ) (f : ℕ → T) (error : T) (t : Parts T)
    (of : AnswersMap f error t) (well : IsWellBuilt of_number (λ c. number (f c)) t)
    (far : length t.values ≤ t.header.data_null_offset) where
  in_trie : (u : ℕ) → u < 0x110000 → answers t u ≡ Some (f u)
  in_trie u l = answer-of-map f error t of u (omega (arith, l))

  past : (r : ℕ) → slice_get t.values (t.header.data_null_offset + r) ≡ None
  past r = slice_get_past t.values (t.header.data_null_offset + r) (omega (arith, far))

  no_fast : (u : ℕ) → u < fast_limit t.header.trie_type → fast_offset t.index u ≡ Some t.header.data_null_offset → ⊥
  no_fast u l is =
      let within : u < 0x110000 = omega (arith, l, limit-most t.header.trie_type) in
      let none = past (u % 64) in
      let some = sym (fast_answer t.header t.index t.values u t.header.data_null_offset within l is) ∙ in_trie u within in
      absurd (cc)

  no_small : (u : ℕ) → u < 0x110000 → fast_limit t.header.trie_type ≤ u → u < t.header.high_start
      → small_offset t.header.trie_type t.index u ≡ Some t.header.data_null_offset → ⊥
  no_small u within from below is =
      let none = past (u % 16) in
      let some = sym (small_answer t.header t.index t.values u t.header.data_null_offset within from below is) ∙ in_trie u within in
      absurd (cc)

  below : (u : ℕ) → u < t.header.high_start → u < 0x110000
  below u l = omega (arith, l, well.coherent.within)

  named : SomeHoldsOne t.header.trie_type t.header.high_start (λ c. number (f c)) (λ _. Unit {0}) (λ _. Unit {0})
      → SomeHoldsOne t.header.trie_type t.header.high_start (λ c. number (f c))
      (λ b. fast_offset t.index (b * 64) ≡ Some t.header.data_null_offset)
      (λ b. small_offset t.header.trie_type t.index (b * 16) ≡ Some t.header.data_null_offset)
  unfolding NamesNull
  named some = well.null_block some

  -- Otherwise the block of 512 would have one value, and so the header would name a block of the data.
  pub no_512-of-map : (b : ℕ) → fast_limit t.header.trie_type ≤ b * 512 → b * 512 < t.header.high_start
      → index2_cell t.header.trie_type t.index (b * 512) ≡ Some t.header.index3_null_offset → ⊥
  no_512-of-map b from under is =
      let good = well.coherent in
      let block : b * 32 * 16 ≡ b * 512 = omega arith in
      let whole : b * 512 + 512 ≤ t.header.high_start = omega (arith, under, good.aligned) in
      let null = good.null_512 b from under is in
      let equal : (i : ℕ) → i < 16 → f (b * 512 + i) ≡ f (b * 512 + 0) = λ i l.
      same_values (sym (in_trie (b * 512 + i) (below (b * 512 + i) (omega (arith, l, whole)))) ∙ null i (omega (arith, l))
      ∙ sym (null 0 (omega arith)) ∙ in_trie (b * 512 + 0) (below (b * 512 + 0) (omega (arith, whole)))) in
      let one : HoldsOne (λ c. number (f c)) 16 (b * 32) = λ i l.
      let here : b * 512 + 0 ≡ b * 32 * 16 = omega arith in
      let there : b * 512 + i ≡ b * 32 * 16 + i = omega arith in
      ap number (ap f (sym there) ∙ equal i l ∙ ap f here) in
      elim (named (inr (b * 32, rw block from, rw block under, one, tt))) [
        | inl w ↦ no_fast (w.0 * 64) w.1 w.3
        | inr w ↦ no_small (w.0 * 16) (below (w.0 * 16) w.2) w.1 w.2 w.4
      ]
