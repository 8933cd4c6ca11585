-- If a built trie is written in ICU's binary form, the trie that is read back is coherent.
use Rattle.std.proofs.Common.{◌≡◌, ℕ, inl, inr, List, length, Option, None, subst, sym}
use Rattle.std.proofs.lemmas.Bool.{cases_lt}
use Rattle.icu_trie.specs.Parts.{Parts}
use Rattle.icu_trie.specs.Ranges.{IsCoherentTrie}
use Rattle.icu_trie_binary.specs.BinaryTrie.{IsStored}
use Rattle.icu_trie_binary.specs.WrittenTrie.{stored_form, why_not_written}
use Rattle.icu_trie_binary.proofs.CallerLemmas.{coherent-stored_far, coherent-stored_in, stored-one}
use Rattle.icu_trie_builder.specs.Built.{IsWellBuilt}
use Rattle.icu_trie_builder.specs.MapAnswers.{AnswersMap}
use Rattle.icu_trie_builder.proofs.CallerLemmas.{no_512-of-map}

module _ {T : Type 0} (unpack : List ℕ → Option T) (width : ℕ) (number : T → ℕ) (of_number : ℕ → Option T) (f : ℕ → T) (error : T)
    (t : Parts T) (of : AnswersMap f error t) (well : IsWellBuilt of_number (λ c. number (f c)) t) (b : List ℕ) (n : ℕ)
    (stored : IsStored unpack width number of_number b (stored_form width number t) n) (room : why_not_written width number t ≡ None) where
  -- The stored form of a built trie is coherent.
  pub coherent-built : IsCoherentTrie of_number (stored_form width number t)
  coherent-built = elim (cases_lt t.header.data_null_offset (length t.values)) [
    | inl named ↦ coherent-stored_in width number t unpack of_number b n stored room named well.coherent
    | inr far ↦ coherent-stored_far width number t of_number far (no_512-of-map of_number number f error t of well far) well.coherent
  ]

  -- So is the trie that is read back.
  pub coherent-read : (u : Parts T) (m : ℕ) → IsStored unpack width number of_number b u m → IsCoherentTrie of_number u
  coherent-read u m read =
      subst (λ v. IsCoherentTrie of_number v)
      (stored-one width number unpack of_number b u (stored_form width number t) m n read stored) coherent-built
