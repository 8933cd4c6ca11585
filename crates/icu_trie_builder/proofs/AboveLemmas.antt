-- No number above 0x10FFFF has a look-up result.
use Rattle.std.proofs.Common.{◌≡◌, ◌≤◌, ℕ, List, None, arith, refl}
use Rattle.std.proofs.lemmas.Bool.{lt-ltb}
use Rattle.icu_trie_core.specs.Contents.{contents_of}
use Rattle.icu_trie_core.specs.declared.header.CodePointTrieHeader.{CodePointTrieHeader}
use Rattle.icu_trie_core.specs.Format.{answer}

-- So its value is the error value.
pub above : {T : Type 0} (h : CodePointTrieHeader) (index : List ℕ) (values : List T) (u : ℕ) → 0x110000 ≤ u
    → answer h (contents_of index values) u ≡ None
unfolding answer
above h index values u beyond = rw (lt-ltb 1114111 u (omega (arith, beyond))) refl
