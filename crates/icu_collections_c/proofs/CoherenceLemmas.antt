-- The form in which a built trie is stored is coherent.
use Rattle.std.proofs.Common.{◌≡◌, ℕ, inl, inr, List, length, Option, None}
use Rattle.std.proofs.lemmas.Bool.{cases_lt}
use Rattle.icu_trie.specs.Parts.{Parts}
use Rattle.icu_trie.specs.Ranges.{IsCoherentTrie}
use Rattle.icu_trie_binary.specs.BinaryTrie.{IsStored}
use Rattle.icu_trie_binary.specs.WrittenTrie.{stored_form, why_not_written}
use Rattle.icu_trie_binary.proofs.CallerLemmas.{coherent-stored_far, coherent-stored_in}
use Rattle.icu_trie_builder.specs.Built.{IsWellBuilt}
use Rattle.icu_trie_builder.specs.MapAnswers.{AnswersMap}
use Rattle.icu_trie_builder.proofs.CallerLemmas.{no_512-of-map}

pub coherent-stored_form : {T : Type 0} (unpack : List ℕ → Option T) (width : ℕ) (number : T → ℕ) (of_number : ℕ → Option T)
    (f : ℕ → T) (error : T) (t : Parts T) → AnswersMap f error t → IsWellBuilt of_number (λ c. number (f c)) t → (b : List ℕ) (n : ℕ)
    → IsStored unpack width number of_number b (stored_form width number t) n → why_not_written width number t ≡ None
    → IsCoherentTrie of_number (stored_form width number t)
coherent-stored_form unpack width number of_number f error t of well b n stored room =
    elim (cases_lt t.header.data_null_offset (length t.values)) [
      | inl named ↦ coherent-stored_in width number t unpack of_number b n stored room named well.coherent
      | inr far ↦ coherent-stored_far width number t of_number far (no_512-of-map of_number number f error t of well far) well.coherent
    ]
