-- The trie in which the values of many characters are looked up.
use Rattle.icu_trie.specs.Parts.{Parts}
use Rattle.icu_trie.specs.View.{view_parts}
use Rattle.icu_trie_text.specs.declared.lookup.TextLookup.{TextLookup}

-- The parts of the trie.
abbrev pub lookup_parts : {T E : Type 0} {m : _} {n : _} {p : _} {q : _} → TextLookup T E m n p q
    → Parts T
lookup_parts lookup = view_parts lookup.view
