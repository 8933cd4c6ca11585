-- Tries with their trie type in the Rust type.
use Rattle.std.specs.Prelude.{◌≡◌, ◌≢◌, Result, Ok, Err}
use Rattle.icu_trie.specs.Parts.{Parts}
use Rattle.icu_trie_core.specs.declared.header.TrieType.{TrieType}
use Rattle.icu_trie_core.specs.declared.header.TrieType.TheVariants as kinds
use Rattle.icu_trie.specs.declared.typed.Typed.{Typed}
use Rattle.icu_trie.specs.declared.typed.Typed.TheVariants.{Fast, Small}
use Rattle.icu_trie.specs.declared.typed.TypedCodePointTrieError.{TypedCodePointTrieError}

-- The same trie, wrapped in the variant of its trie type.
abbrev pub IsTyped : {T : Type 0} → Parts T → Typed (Parts T) (Parts T) → Type 0
IsTyped t (Fast s) = (s ≡ t) × (t.header.trie_type ≡ kinds.Fast)
IsTyped t (Small s) = (s ≡ t) × (t.header.trie_type ≡ kinds.Small)

-- Ok with the same trie if it is of this type; otherwise an error.
abbrev pub IsOfType : {T : Type 0} → TrieType → Parts T → Result (Parts T) TypedCodePointTrieError
    → Type 0
IsOfType kind t (Ok s) = (s ≡ t) × (t.header.trie_type ≡ kind)
IsOfType kind t (Err e) = t.header.trie_type ≢ kind
