-- A trie of the width in its header.
use Rattle.std.proofs.Common.{◌≡◌, ℕ, List, inr, sym, subst}
use Rattle.std.specs.Prelude.{Result, Ok, Err, IfErr}
use Rattle.icu_trie_binary.specs.BinaryHeader.{header_of, width_bytes}
use Rattle.icu_trie_binary.specs.BinaryTrie.{IsWhyNoUnsigned, IsWhyNoneStored}
use Rattle.icu_trie_binary.specs.declared.error.BinaryError.{BinaryError}
use Rattle.icu_trie_binary.specs.declared.header.BinaryHeader.{BinaryHeader}
use Rattle.icu_trie_binary.specs.declared.header.ValueWidth.{ValueWidth}

-- Its error is that of the bytes.
pub none_of_width : {A : Type 0} (b : List ℕ) (h : BinaryHeader) (w : ValueWidth) (r : Result A BinaryError)
    → header_of b ≡ Ok h → h.value_width ≡ w → IfErr r (IsWhyNoUnsigned (width_bytes w) b) → IfErr r (IsWhyNoneStored b)
none_of_width b h w (Ok x) reads is_width why = tt
none_of_width b h w (Err e) reads is_width why =
    let P : ValueWidth → Type 0 = λ v. IsWhyNoUnsigned (width_bytes v) b e in
    inr (h, reads, subst P (sym is_width) why)
