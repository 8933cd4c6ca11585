-- A converted trie still passes the checks of `try_new`.
use Rattle.std.proofs.Common.{◌≡◌, ℕ, List, length, Option, Some, None, Ok, refl, arith, sym, ◌∙◌, ap}
use Rattle.std.proofs.lemmas.Bool.Decides.{nat_tests}
use Rattle.icu_zerovec.specs.Cells.{values_of, IsConverted}
use Rattle.icu_zerovec.proofs.CallerLemmas.{length-values_of}
use Rattle.icu_trie.specs.Conversion.{with_null_value}
use Rattle.icu_trie.specs.Parts.{parts_fault}
use Rattle.icu_trie_core.specs.declared.header.CodePointTrieHeader.{CodePointTrieHeader}

-- The number of values is unchanged.
pub length-converted : {T P : Type 0} (f : List ℕ → Option T) (g : List ℕ → Option P) (w v : ℕ) (xs : List T) (ys : List P) → w ≡ v
    → IsConverted f w g v xs (Ok ys) → length ys ≡ length xs
length-converted f g w v xs ys same c =
    let before : length xs ≡ length (values_of f w c.bytes) = ap length (sym c.values) in
    let after : length ys ≡ length (values_of g v c.bytes) = ap length c.ok.1 in
    after ∙ (length-values_of g v c.bytes c.ok.0 ∙ (rw same refl ∙ (sym (length-values_of f w c.bytes c.packed) ∙ sym before)))

-- Parts without a fault still have none if the values are replaced by as many others, and the null
-- value by another valid one.
pub fault-kept : {T P : Type 0} (of_number : ℕ → Option T) (of_other : ℕ → Option P) (h : CodePointTrieHeader) (index : List ℕ)
    (xs : List T) (ys : List P) (n : ℕ) (p : P)
    → parts_fault of_number h index xs ≡ None → length ys ≡ length xs → of_other n ≡ Some p
    → parts_fault of_other (with_null_value h n) index ys ≡ None
fault-kept of_number of_other h index xs ys n p sound same is = grind (arith, nat_tests)
