-- What a line of a word list says. Bytes are numbers, as 59 for `;`.
use Rattle.std.specs.Prelude.{ℕ, ℤ, pos, ◌-ℤ◌, ◌-◌, ◌^◌, ◌==◌, nat_le, nat_lt, not, Bool, true, false, List, [], ◌∷◌, length, drop, slice_index, Option, Some, None, Result, Ok, Err, if◌then◌else◌}
use Rattle.std.specs.List.{before_last, after_last, suffix_len}
use Rattle.std.specs.Option.{option_and_then}
use Rattle.std.specs.Str.{is_utf8}
use Rattle.ucptab_table.specs.TableText.{decimal_number, trimmed}
use Rattle.ucptrie_words.specs.declared.error.LineError.{LineError}
use Rattle.ucptrie_words.specs.declared.error.LineError.TheVariants.{NoSeparator, NoKey, NotUtf8, NoValue, NotNumber}
use Rattle.ucptrie_words.specs.declared.line.Word.{Word}

-- The number n or -n, if it is from -2^31 to 2^31 - 1.
abbrev pub signed : Bool → ℕ → Option ℤ
signed true n = if nat_le n (2 ^ 31) then Some (pos 0 -ℤ pos n) else None
signed false n = if nat_lt n (2 ^ 31) then Some (pos n) else None

-- A number of 32 bits with a sign, in 1 to 10 decimal digits, with or without `-` before them.
unfoldable pub signed_number : List ℕ → Option ℤ
signed_number bytes = if slice_index bytes 0 == 45
    then option_and_then (signed true) (decimal_number (drop 1 bytes))
    else option_and_then (signed false) (decimal_number bytes)

-- The bytes before and after the last one that is `mark`; none if there is none.
unfoldable pub cut_at_last : ℕ → List ℕ → Option (List ℕ × List ℕ)
cut_at_last mark bytes = if nat_lt (suffix_len (λ b. not (b == mark)) bytes) (length bytes)
    then Some (before_last (λ b. b == mark) bytes, after_last (λ b. b == mark) bytes) else None

-- A line that says nothing: it is blank, or a comment, which starts with `#`.
abbrev pub is_silent : List ℕ → Bool
is_silent [] = true
is_silent (b ∷ bytes) = b == 35

-- The word of a key and a number.
abbrev pub word_with : List ℕ → Option ℤ → Result (List ℕ × ℤ) LineError
word_with key (Some value) = Ok (key, value)
word_with key None = Err NotNumber

-- The word of a key and a value, given as text: the key and its number.
unfoldable pub word_in : List ℕ → List ℕ → Result (List ℕ × ℤ) LineError
word_in key value =
    if length key == 0 then Err NoKey
    else (if not (is_utf8 key) then Err NotUtf8
    else (if length value == 0 then Err NoValue
    else word_with key (signed_number value)))

-- The one word, or the fault.
abbrev pub some_word : Result (List ℕ × ℤ) LineError → Result (Option (List ℕ × ℤ)) LineError
some_word (Ok word) = Ok (Some word)
some_word (Err fault) = Err fault

-- The word of the fields around the last `;`.
abbrev pub word_of_fields : Option (List ℕ × List ℕ) → Result (Option (List ℕ × ℤ)) LineError
word_of_fields None = Err NoSeparator
word_of_fields (Some fields) = some_word (word_in (trimmed fields.0) (trimmed fields.1))

-- What a line says: nothing if it is blank or a comment, and otherwise the word `KEY ; VALUE`, or
-- its fault. The key ends before the last `;`. Blanks around the key and the value do not count.
unfoldable pub word_of : List ℕ → Result (Option (List ℕ × ℤ)) LineError
word_of line = let content = trimmed line in
    if is_silent content then Ok None else word_of_fields (cut_at_last 59 content)

-- A word as its key and its value.
abbrev pub fields_of : Word → List ℕ × ℤ
fields_of word = (word.key.now, word.value)

-- The same of what a function returns.
abbrev pub shown_word : Result Word LineError → Result (List ℕ × ℤ) LineError
shown_word (Ok word) = Ok (fields_of word)
shown_word (Err fault) = Err fault

abbrev pub shown : Result (Option Word) LineError → Result (Option (List ℕ × ℤ)) LineError
shown (Ok None) = Ok None
shown (Ok (Some word)) = Ok (Some (fields_of word))
shown (Err fault) = Err fault
