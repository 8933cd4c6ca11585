-- The table that a file has, in ICU's binary form, in JSON and in TOML; which files are taken for
-- which form; and why a file has no table.
use Rattle.std.specs.Prelude.{◌≡◌, ◌≢◌, ◌⊎◌, ◌==◌, ℕ, ◌^◌, Bool, true, false, List, take, slice_index, Some, None, Ok, codes, ⊤}
use Rattle.std.specs.Str.{trim_start, IsUtf8}
use Rattle.serde_json.specs.Data.{Data}
use Rattle.serde_json.specs.Read.{read as read_text}
use Rattle.toml.specs.Data.{Members}
use Rattle.toml.specs.Parse.{parse_document}
use Rattle.icu_trie_core.specs.ValueNumbers.{fitting}
use Rattle.icu_trie_binary.specs.BinaryTrie.{IsUnsignedStored, IsWhyNoneStored, IsWhyNoUnsigned}
use Rattle.icu_trie_binary.specs.SwappedTrie.{in_other_order}
use Rattle.icu_trie_binary.specs.declared.error.BinaryError.{BinaryError}
use Rattle.icu_trie_binary.specs.declared.error.BinaryError.TheVariants.{OtherWidth}
use Rattle.icu_trie_binary.specs.declared.error.SwappedError.{SwappedError}
use Rattle.icu_trie_binary.specs.declared.error.SwappedError.TheVariants as swapped_refusals
use Rattle.icu_trie_formats.specs.TrieJson.{trie_of_json, IsRefusedJson}
use Rattle.icu_trie_formats.specs.TrieToml.{TomlParts, toml_of, trie_of, IsRefused, IsRefusedTrie}
use Rattle.icu_trie_formats.specs.declared.json.TrieJsonError.{TrieJsonError}
use Rattle.icu_trie_formats.specs.declared.json.TrieJsonError.TheVariants as json_refusals
use Rattle.icu_trie_formats.specs.declared.trie_toml.TomlError.TheVariants as toml_refusals
use Rattle.icu_trie_formats.specs.declared.trie_toml.TrieFromTomlError.{TrieFromTomlError}
use Rattle.icu_trie_formats.specs.declared.trie_toml.TrieFromTomlError.TheVariants as trie_refusals
use Rattle.ucptrie_readers.specs.TomlFiles.{trie_table, width_of}
use Rattle.ucptrie_tables.specs.ValueWidth.{bytes_of}
use Rattle.ucptrie_readers.specs.declared.error.ReadError.{ReadError}
use Rattle.ucptrie_readers.specs.declared.error.ReadError.TheVariants.{Binary, Json, TrieJson, Toml, TrieToml, Memory}
use Rattle.ucptrie_tables.specs.declared.table.Table.{Table}
use Rattle.ucptrie_tables.specs.declared.width.ValueWidth.TheVariants.{Bits32}

-- ---- Which form a file is taken for

-- The first four bytes are the signature of ICU's binary form, in this machine's byte order.
abbrev pub HasSignature : List ℕ → Type 0
HasSignature file = take 4 file ≡ codes "3irT"

-- They are that signature in the other byte order.
abbrev pub HasSwappedSignature : List ℕ → Type 0
HasSwappedSignature file = take 4 file ≡ codes "Tri3"

-- The file has neither signature.
pub record HasNoSignature (file : List ℕ) : Type 0 where
  pub own : ¬ HasSignature file
  pub swapped : ¬ HasSwappedSignature file

-- After white space, which the text may have or not, its first byte is `{`.
abbrev pub starts_object : List ℕ → Bool
starts_object text = slice_index (trim_start text) 0 == 123

-- A UTF-8 text without a signature is read as JSON if it starts with an object.
pub record IsTakenForJson (file : List ℕ) : Type 0 where
  pub unsigned : HasNoSignature file
  pub text : IsUtf8 file
  pub object : starts_object file ≡ true

-- A UTF-8 text without a signature is read as TOML if it does not start with an object.
pub record IsTakenForToml (file : List ℕ) : Type 0 where
  pub unsigned : HasNoSignature file
  pub text : IsUtf8 file
  pub no_object : starts_object file ≡ false

-- A file with no signature that is not UTF-8 has no form.
pub record HasNoForm (file : List ℕ) : Type 0 where
  pub unsigned : HasNoSignature file
  pub no_text : ¬ IsUtf8 file

-- ---- ICU's binary form

-- The file starts with the table's trie in ICU's binary form, with values of its width.
abbrev pub IsBinaryOf : List ℕ → Table → Type 0
IsBinaryOf file t = (len : ℕ) × IsUnsignedStored (bytes_of t.width) file t.trie len

-- The same if each number has its bytes in the other order.
abbrev pub IsSwappedOf : List ℕ → Table → Type 0
IsSwappedOf file t = IsBinaryOf (in_other_order (bytes_of t.width) file) t

-- Why a file with the signature has no table: its first fault as a trie of the width that its
-- header has. No clause can say when an allocation fails, here and below.
abbrev pub IsWhyNoBinary : List ℕ → ReadError → Type 0
IsWhyNoBinary file (Binary why) = IsWhyNoneStored file why
IsWhyNoBinary file Memory = ⊤
IsWhyNoBinary file _ = ⊥

-- The first fault of a file in the other byte order, if its values have so many bytes.
abbrev pub IsWhyNotSwappedAs : ℕ → List ℕ → BinaryError → Type 0
IsWhyNotSwappedAs bytes file = IsWhyNoUnsigned bytes (in_other_order bytes file)

-- The first fault of a file in the other byte order: each width is tried, the narrowest first, and
-- the next only if the trie has another width.
abbrev pub IsWhyNoneSwapped : List ℕ → BinaryError → Type 0
IsWhyNoneSwapped file why =
    (IsWhyNotSwappedAs 1 file why × (why ≢ OtherWidth))
    ⊎ (IsWhyNotSwappedAs 1 file OtherWidth
    × ((IsWhyNotSwappedAs 2 file why × (why ≢ OtherWidth))
    ⊎ (IsWhyNotSwappedAs 2 file OtherWidth × IsWhyNotSwappedAs 4 file why)))

-- Why a file with the signature in the other byte order has no table.
abbrev pub IsWhyNoSwapped : List ℕ → ReadError → Type 0
IsWhyNoSwapped file (Binary why) = IsWhyNoneSwapped file why
IsWhyNoSwapped file Memory = ⊤
IsWhyNoSwapped file _ = ⊥

-- ---- JSON

-- The text is the table's trie in JSON, whose numbers have 32 bits.
abbrev pub IsJsonOf : List ℕ → Table → Type 0
IsJsonOf text t = (d : Data) × (read_text text ≡ Some d)
    × (trie_of_json (fitting (2 ^ 32)) d ≡ Ok t.trie) × (t.width ≡ Bits32)

-- Why a text taken for JSON has no table: it is not JSON, or the first fault of its JSON as a trie.
abbrev pub IsWhyNoJson : List ℕ → ReadError → Type 0
IsWhyNoJson text (Json why) = read_text text ≡ None
IsWhyNoJson text (TrieJson json_refusals.Memory) = ⊥
IsWhyNoJson text (TrieJson why) = (d : Data) × (read_text text ≡ Some d)
    × IsRefusedJson (trie_of_json (fitting (2 ^ 32)) d) why
IsWhyNoJson text Memory = ⊤
IsWhyNoJson text _ = ⊥

-- ---- TOML

-- The table of a TOML file is the table's trie.
pub record IsTomlTrieOf (members : Members) (t : Table) : Type 0 where
  pub parts : TomlParts
  pub says : toml_of members ≡ Ok parts
  pub trie : trie_of (fitting (2 ^ 32)) parts ≡ Ok t.trie
  pub width : t.width ≡ width_of parts

-- The text is a TOML file that has the table's trie.
pub record IsTomlOf (text : List ℕ) (t : Table) : Type 0 where
  pub file : Members
  pub reads : parse_document text ≡ Some file
  pub trie : IsTomlTrieOf (trie_table file) t

-- Why a table of a TOML file is not a trie: its own first fault, or that of the trie of its parts.
abbrev pub IsWhyNoTrieToml : Members → TrieFromTomlError → Type 0
IsWhyNoTrieToml table (trie_refusals.Table toml_refusals.Memory) = ⊥
IsWhyNoTrieToml table (trie_refusals.Table why) = IsRefused (toml_of table) why
IsWhyNoTrieToml table (trie_refusals.Trie why) = (parts : TomlParts) × (toml_of table ≡ Ok parts)
    × IsRefusedTrie (trie_of (fitting (2 ^ 32)) parts) (trie_refusals.Trie why)
IsWhyNoTrieToml table trie_refusals.Memory = ⊥

-- The same as a fault of reading.
abbrev pub IsWhyNoTomlTrie : Members → ReadError → Type 0
IsWhyNoTomlTrie table (TrieToml why) = IsWhyNoTrieToml table why
IsWhyNoTomlTrie table Memory = ⊤
IsWhyNoTomlTrie table _ = ⊥

-- Why a text is not read as TOML.
abbrev pub IsWhyNotToml : List ℕ → ReadError → Type 0
IsWhyNotToml text (Toml why) = parse_document text ≡ None
IsWhyNotToml text Memory = ⊤
IsWhyNotToml text _ = ⊥

-- Why a text taken for TOML has no table: it is not TOML, or its table is not a trie.
abbrev pub IsWhyNoToml : List ℕ → ReadError → Type 0
IsWhyNoToml text (Toml why) = parse_document text ≡ None
IsWhyNoToml text (TrieToml why) = (file : Members) × (parse_document text ≡ Some file)
    × IsWhyNoTrieToml (trie_table file) why
IsWhyNoToml text Memory = ⊤
IsWhyNoToml text _ = ⊥

-- ---- How the errors of the crates below are passed on: an allocation that failed is `Memory`

-- The error of a trie in JSON.
abbrev pub refusal_of_json : TrieJsonError → ReadError
refusal_of_json json_refusals.Memory = Memory
refusal_of_json why = TrieJson why

-- The error of a trie in TOML.
abbrev pub refusal_of_toml : TrieFromTomlError → ReadError
refusal_of_toml trie_refusals.Memory = Memory
refusal_of_toml why = TrieToml why

-- The error of a trie in the other byte order.
abbrev pub refusal_of_swapped : SwappedError → ReadError
refusal_of_swapped (swapped_refusals.Binary why) = Binary why
refusal_of_swapped swapped_refusals.Memory = Memory
