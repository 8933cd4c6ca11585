-- The trie of the parts that were read from JSON or TOML.
use Rattle.std.specs.Prelude.{ℕ, List, Option, Some, None, Result, Ok, Err}
use Rattle.icu_trie.specs.Parts.{Parts, parts_fault}
use Rattle.icu_trie_core.specs.declared.header.CodePointTrieHeader.{CodePointTrieHeader}
use Rattle.icu_trie_core.specs.declared.error.CodePointTrieError.{CodePointTrieError}

-- The parts, or their error, wrapped as an error of the format.
abbrev pub unless_fault : {T F : Type 0} → (CodePointTrieError → F) → Option CodePointTrieError
    → Parts T → Result (Parts T) F
unless_fault of_parts None parts = Ok parts
unless_fault of_parts (Some e) parts = Err (of_parts e)

-- The trie of these parts, or their first error.
abbrev pub trie_of_parts : {T F : Type 0} → (CodePointTrieError → F) → (ℕ → Option T)
    → CodePointTrieHeader → List ℕ → List T → Result (Parts T) F
trie_of_parts of_parts of_number h index values =
    unless_fault of_parts (parts_fault of_number h index values)
    (record { header = h; index = index; values = values })
