-- Source in C and in Rust: its names, the cells of its arrays, and the name of a trie's type.
use Rattle.std.specs.Prelude.{ℕ, ◌+◌, ◌==◌, ◌||◌, ◌&&◌, not, Bool, true, false, List, [], ◌∷◌, ◌++◌, codes}
use Rattle.std.specs.Char.{is_ascii_alphanumeric, is_ascii_digit}
use Rattle.std.specs.List.{list_all}
use Rattle.icu_trie_core.specs.declared.header.TrieType.{TrieType}
use Rattle.icu_trie_core.specs.declared.header.TrieType.TheVariants.{Fast, Small}
use Rattle.ucptab_table.specs.Patterns.{cell_number, gap, number_text}
use Rattle.ucptrie_tables.specs.declared.form.Form.{Form}
use Rattle.ucptrie_tables.specs.declared.form.Form.TheVariants.{Bks, C, Rust}

-- A byte that a name in C and in Rust can have: an ASCII letter or digit, or `_`.
abbrev pub is_name_byte : ℕ → Bool
is_name_byte b = is_ascii_alphanumeric b || b == 95

-- The text has at least one byte, only such bytes, and not a digit first.
abbrev pub is_name : List ℕ → Bool
is_name [] = false
is_name (b ∷ bytes) = not (is_ascii_digit b) && list_all is_name_byte (b ∷ bytes)

-- The forms whose source can name values.
abbrev pub has_names : Form → Bool
has_names (Bks name) = true
has_names (C name) = true
has_names (Rust name) = true
has_names _ = false

-- The cells of an array from the cell i on, each after its comma or line end.
abbrev pub cells_from : List ℕ → ℕ → List ℕ → List ℕ
cells_from indent i [] = []
cells_from indent i (cell ∷ cells) =
    (gap indent i ++ number_text (cell_number cell)) ++ cells_from indent (i + 1) cells

-- The name of a type, as in `ucptab`'s arguments.
abbrev pub type_name : TrieType → List ℕ
type_name Fast = codes "fast"
type_name Small = codes "small"
