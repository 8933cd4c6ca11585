-- Names of values in source.
use Rattle.std.specs.Prelude.{◌≡◌, ℕ, zero, suc, ◌+◌, ◌-◌, ◌<◌, ◌==◌, ◌&&◌, ◌||◌, nat_le, nat_lt, not, Bool, true, false, List, [], ◌∷◌, ◌++◌, codes, decimal, length, map, slice_index, string_bytes, if◌then◌else◌}
use Rattle.std.specs.Char.{is_ascii_alphanumeric, is_ascii_digit, to_ascii_uppercase}
use Rattle.std.specs.List.{filter, fold, list_all, list_any, slice_split, All, FoldsTo, IsDistinct}
use Rattle.std.specs.Str.{bytes_eq}
use Rattle.ucd_files.specs.declared.names.Name.{Name}
use Rattle.ucptrie_names.specs.declared.value_names.EnumValue.{EnumValue}

-- ---- Names

-- The bytes of a name, or 0 if it is a number: a value is named by its number only if it has no
-- other name.
abbrev pub name_length : List ℕ → ℕ
name_length text = if list_all is_ascii_digit text then 0 else length text

-- One of the names has this number and at least so many bytes.
abbrev pub has_name : List Name → ℕ → ℕ → Bool
has_name names number least =
    list_any (λ name. (name.number == number) && nat_le least (name_length name.text.now)) names

-- The name is the longest one of its number, and the first such one: none before it is as long, and
-- none from it on is longer.
abbrev pub is_longest : List Name → Name → List Name → Bool
is_longest before name from = not (has_name before name.number (name_length name.text.now))
    && not (has_name from name.number (name_length name.text.now + 1))

-- The names that an enum has, of those after the names `before`: of each number up to `highest` the
-- longest one, and of several the first.
abbrev pub listed : ℕ → List Name → List Name → List Name
listed highest before [] = []
listed highest before (name ∷ after) =
    if nat_le name.number highest && is_longest before name (name ∷ after)
    then name ∷ listed highest (before ++ name ∷ []) after
    else listed highest (before ++ name ∷ []) after

-- ---- What a name gives

-- The words of a name: its runs of ASCII letters and digits.
abbrev pub words : List ℕ → List (List ℕ)
words name = filter (λ word. nat_lt 0 (length word))
    (slice_split (λ b. not (is_ascii_alphanumeric b)) name)

-- The last byte of a text, or 0 if it is empty.
abbrev pub last_byte : List ℕ → ℕ
last_byte text = slice_index text (length text - 1)

-- What precedes a word that starts with b: `V` before a digit at the start of an identifier, and
-- `_` between two digits. `last` is the byte before the word, or 0 at the start.
abbrev pub before_word : ℕ → ℕ → List ℕ
before_word last b = if is_ascii_digit b
    then (if last == 0 then codes "V" else (if is_ascii_digit last then codes "_" else []))
    else []

-- An identifier with a word behind it, whose first letter becomes a capital.
abbrev pub with_word : List ℕ → List ℕ → List ℕ
with_word text [] = text
with_word text (b ∷ word) =
    text ++ (before_word (last_byte text) b ++ to_ascii_uppercase b ∷ word)

-- An identifier with words behind it: upper camel case.
abbrev pub with_words : List ℕ → List (List ℕ) → List ℕ
with_words text more = fold with_word text more

-- A name in Rust: its words, after `Minus` if it starts with `-`.
abbrev pub rust_name : List ℕ → List ℕ
rust_name name = with_words (if slice_index name 0 == 45 then codes "Minus" else []) (words name)

-- A byte of a name in C: `_` for a byte that is no ASCII letter or digit.
abbrev pub c_byte : ℕ → ℕ
c_byte b = if is_ascii_alphanumeric b then b else 95

-- A name in C: its bytes, after `V` if it starts with a digit.
abbrev pub c_name : List ℕ → List ℕ
c_name name = (if is_ascii_digit (slice_index name 0) then codes "V" else []) ++ map c_byte name

-- The name of a value in source. The empty name is that of code points without a line.
abbrev pub value_name : Bool → List ℕ → List ℕ
value_name is_rust name = if length name == 0 then codes "Unlisted"
    else (if is_rust then rust_name name else c_name name)

-- What cannot be a variant in Rust, and what the source of a table in C defines, without the name
-- of the table and `_`.
abbrev pub is_reserved : Bool → List ℕ → Bool
is_reserved true text = list_any (λ word. bytes_eq word text) (codes "" ∷ codes "Self" ∷ [])
is_reserved false text = list_any (λ word. bytes_eq word text)
    (codes "dataLength" ∷ codes "fastLimit" ∷ codes "get" ∷ codes "highStart" ∷ codes "index1"
    ∷ codes "open" ∷ codes "table" ∷ codes "trie" ∷ codes "trieData" ∷ codes "trieIndex" ∷ codes "value" ∷ [])

-- The text is reserved, or the identifier of one of the values.
abbrev pub is_taken : List EnumValue → Bool → List ℕ → Bool
is_taken values is_rust text = is_reserved is_rust text
    || list_any (λ v. bytes_eq text (string_bytes v.identifier)) values

-- An identifier with the digits of a number behind it as one more word.
abbrev pub with_number : ℕ → List ℕ → List ℕ
with_number n text = with_word text (decimal n)

-- An identifier with a number behind it k times.
abbrev pub numbered : ℕ → List ℕ → ℕ → List ℕ
numbered n text zero = text
numbered n text (suc k) = numbered n (with_number n text) k

-- Of `own`, `own` with the number behind it, `own` with the number twice behind it, and so on, the
-- text is the first that is not taken.
pub record IsFirstFree (is_rust : Bool) (values : List EnumValue) (number : ℕ)
    (own text : List ℕ) : Type 0 where
  pub times : ℕ
  pub is : text ≡ numbered number own times
  pub free : is_taken values is_rust text ≡ false
  pub least : (k : ℕ) → k < times → is_taken values is_rust (numbered number own k) ≡ true

-- ---- Values

-- The values and one more, which has the number of the name and an identifier of its own.
pub record IsWithValue (is_rust : Bool) (values : List EnumValue) (name : Name)
    (all : List EnumValue) : Type 0 where
  pub value : EnumValue
  pub pushed : all ≡ values ++ value ∷ []
  pub number : value.number ≡ name.number
  pub identifier : IsFirstFree is_rust values name.number (value_name is_rust name.text.now)
      (string_bytes value.identifier)

-- The values of the names: one for each, in order.
abbrev pub AreValuesOf : Bool → List Name → List EnumValue → Type 0
AreValuesOf is_rust names values = FoldsTo (IsWithValue is_rust) [] names values

-- The identifiers of the values of an enum.
pub record AreIdentifiers (is_rust : Bool) (values : List EnumValue) : Type 0 where
  -- None is reserved.
  pub free : All (λ v. is_reserved is_rust (string_bytes v.identifier) ≡ false) values
  -- No two are equal.
  pub apart : IsDistinct
      (λ v w. bytes_eq (string_bytes v.identifier) (string_bytes w.identifier)) values

-- ---- The enum

-- The name of an enum in Rust: the words of the module's name, and `Value` behind them if they have
-- a meaning in the source, as the module's name has.
abbrev pub enum_name : List ℕ → List ℕ
enum_name from = with_words [] (words from) ++ (if has_meaning then codes "Value" else []) where
  has_meaning : Bool
  has_meaning = list_any (λ word. bytes_eq word (with_words [] (words from)))
      (from ∷ codes "" ∷ codes "Option" ∷ codes "Result" ∷ codes "Self" ∷ codes "TryFrom" ∷ [])
