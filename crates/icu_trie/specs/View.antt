-- The header, the index and the data of a view.
use Rattle.icu_zerovec.specs.Slice.{slice_values}
use Rattle.icu_trie.specs.Parts.{Parts}
use Rattle.icu_trie.specs.declared.view.TrieView.{TrieView}

-- The parts of the trie: the header and the cells that it borrows.
abbrev pub view_parts : {T E : Type 0} {m : _} {n : _} {p : _} {q : _} → TrieView T E m n p q
    → Parts T
view_parts v =
    record { header = v.header; index = slice_values v.index; values = slice_values v.«data» }
