-- The entries of a trie, in lines.
use Rattle.std.specs.Prelude.{◌≡◌, ℕ, ℤ, ◌==◌, ◌&&◌, not, Bool, true, List, [], ◌∷◌, ◌++◌, length, All, Option}
use Rattle.std.specs.Fmt.{signed_decimal}
use Rattle.std.specs.List.{find, flat_map, list_any}
use Rattle.std.specs.Option.{option_map}
use Rattle.std.specs.Str.{chars}
use Rattle.icu_char16trie.specs.LossyText.{key_text}
use Rattle.icu_char16trie.specs.UnitMap.{UnitMap}
use Rattle.ucptab_table.specs.TableText.{trimmed}
use Rattle.ucptrie_words.specs.Lines.{is_silent}

-- A text that a line can have as its key: it has no blank at an end and no line feed, and is
-- neither empty nor the start of a comment. It has no U+FFFD either, which may replace a lone
-- surrogate.
unfoldable pub can_be_key : List ℕ → Bool
can_be_key text = (length (trimmed text) == length text && not (is_silent text))
    && (not (list_any (λ b. b == 10) text) && not (list_any (λ c. c == 0xFFFD) (chars text)))

-- The line of a key and a value: `KEY;VALUE` LF.
abbrev pub line_of : List ℕ → ℤ → List ℕ
line_of key value = key ++ (59 ∷ (signed_decimal value ++ (10 ∷ [])))

-- The line of an entry.
abbrev pub row_of : List ℕ × ℤ → List ℕ
row_of e = line_of (key_text e.0) e.1

-- The lines of all entries, in order.
abbrev pub rows_text : UnitMap → List ℕ
rows_text m = flat_map row_of m

-- A line can have the entry's key.
abbrev pub HasRow : List ℕ × ℤ → Type 0
HasRow e = can_be_key (key_text e.0) ≡ true

-- The text is that of the entries, and a line can have each key.
pub record AreRowsOf (m : UnitMap) (text : List ℕ) : Type 0 where
  pub rows : text ≡ rows_text m
  pub keys : All HasRow m

-- The first key that no line can have, if there is one.
abbrev pub first_without_row : UnitMap → Option (List ℕ)
first_without_row m =
    option_map (λ e. key_text e.0) (find (λ e. not (can_be_key (key_text e.0))) m)
