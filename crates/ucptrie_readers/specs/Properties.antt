-- The table of a property in a TOML file, and that of a file which is not TOML.
use Rattle.std.specs.Prelude.{◌≡◌, ◌<◌, ℕ, ◌||◌, Bool, true, false, nat_eq, List, [], ◌∷◌, ◌++◌, codes, filter, filter_map, length, is_some, Option, Some, None, option_and_then, option_map, unwrap_or, Result, Ok, Err, MatchResult, String, string_bytes, ⊤}
use Rattle.std.specs.BTreeMap.{BTreeMap}
use Rattle.std.specs.Cmp.Lexicographic.{pointwise}
use Rattle.std.specs.List.{join_by}
use Rattle.std.specs.declared.alloc.Global.{Global}
use Rattle.toml.specs.Data.{Data, Members, no_members, member, as_str, as_table, get_member}
use Rattle.toml.specs.Parse.{parse_document}
use Rattle.toml.specs.View.{table_view}
use Rattle.toml.specs.declared.value.Value.{Value}
use Rattle.icu_trie_formats.specs.TrieToml.{items_in}
use Rattle.ucptrie_readers.specs.Files.{HasNoForm, HasSignature, HasSwappedSignature, IsBinaryOf, IsJsonOf, IsSwappedOf, IsTakenForJson, IsTakenForToml, IsTomlTrieOf, IsWhyNoBinary, IsWhyNoJson, IsWhyNoSwapped, IsWhyNoTomlTrie}
use Rattle.ucptrie_readers.specs.TomlFiles.{trie_of_table}
use Rattle.ucptrie_readers.specs.TomlNames.{names_of}
use Rattle.ucptrie_readers.specs.declared.error.ReadError.{ReadError}
use Rattle.ucptrie_readers.specs.declared.error.ReadError.TheVariants.{Memory, Text}
use Rattle.ucptrie_readers.specs.declared.properties.PropertyError.{PropertyError}
use Rattle.ucptrie_readers.specs.declared.properties.PropertyError.TheVariants.{Read, NotToml, Missing, Several}
use Rattle.ucptrie_tables.specs.declared.table.Table.{Table}
use Rattle.ucptrie_readers.specs.declared.toml_names.NamesError.{NamesError}

-- ---- The properties of a file

-- A property that has a trie: the key of the file at which it is, its table, and that of its trie.
pub record TrieProperty : Type 0 where
  pub key : List ℕ
  pub table : Members
  pub trie : Members

-- The text at a key of a table.
abbrev pub text_at : List ℕ → Members → Option (List ℕ)
text_at key table = option_and_then as_str (get_member key table)

-- The value is this text.
abbrev pub is_text : List ℕ → Option (List ℕ) → Bool
is_text text None = false
is_text text (Some found) = pointwise nat_eq found text

-- The name is the key of the property, its long name or its short one.
abbrev pub is_named : List ℕ → TrieProperty → Bool
is_named name p = pointwise nat_eq p.key name
    || (is_text name (text_at (codes "long_name") p.table)
    || is_text name (text_at (codes "short_name") p.table))

-- The property is asked for: it has the name, or none is asked.
abbrev pub is_asked : Option (List ℕ) → TrieProperty → Bool
is_asked None p = true
is_asked (Some name) p = is_named name p

-- The property that a value at a key is, if the value is a table with a trie.
abbrev pub property_of : List ℕ → Data → Option TrieProperty
property_of key d = option_and_then (λ table. option_map
    (λ trie. record { key = key; table = table; trie = trie }) (trie_of_table table)) (as_table d)

-- The properties at a key: those that the items of an array are, or the one that the value is.
abbrev pub properties_at : List ℕ → Data → List TrieProperty
properties_at key d = filter_map (property_of key) (unwrap_or (items_in d) (d ∷ []))

-- The properties of a file that have a trie, in order of their keys.
abbrev pub properties_of : Members → List TrieProperty
properties_of no_members = []
properties_of (member key d others) = properties_at key d ++ properties_of others

-- Those of them that are asked for.
abbrev pub asked_of : Option (List ℕ) → Members → List TrieProperty
asked_of name file = filter (is_asked name) (properties_of file)

-- ---- The one that is asked for

-- The table of the trie: that of the only property that is asked for, or the whole file if no
-- property has a trie and no name is asked.
abbrev pub chosen_trie : Option (List ℕ) → Members → Option Members
chosen_trie name file = of_asked (asked_of name file) name where
  of_asked : List TrieProperty → Option (List ℕ) → Option Members
  of_asked [] None = Some file
  of_asked [] (Some name) = None
  of_asked (p ∷ []) name = Some p.trie
  of_asked (p ∷ q ∷ ps) name = None

-- The names of the values of the only property that is asked for. Without one there are none.
abbrev pub chosen_names : Option (List ℕ) → Members → Result (List (List ℕ × ℕ)) NamesError
chosen_names name file = of_asked (asked_of name file) where
  of_asked : List TrieProperty → Result (List (List ℕ × ℕ)) NamesError
  of_asked [] = Ok []
  of_asked (p ∷ []) = names_of p.table
  of_asked (p ∷ q ∷ ps) = Ok []

-- The name by which messages call a property.
abbrev pub name_of : TrieProperty → List ℕ
name_of p = unwrap_or (text_at (codes "long_name") p.table) p.key

-- The names of properties, with commas between them.
abbrev pub listed : List TrieProperty → List ℕ
listed = join_by name_of (codes ", ")

-- Why the trie of a file that is chosen can't be read.
abbrev pub IsWhyUnread : Option Members → ReadError → Type 0
IsWhyUnread chosen Memory = ⊤
IsWhyUnread None why = ⊥
IsWhyUnread (Some trie) why = IsWhyNoTomlTrie trie why

-- Why a file has no table of the property that is asked for: none has the name, or several are
-- asked for, or the chosen trie can't be read.
abbrev pub IsWhyNoneAsked : Option (List ℕ) → Members → PropertyError → Type 0
IsWhyNoneAsked name file (Read why) = IsWhyUnread (chosen_trie name file) why
IsWhyNoneAsked name file NotToml = ⊥
IsWhyNoneAsked name file (Missing found) = (is_some name ≡ true) × (asked_of name file ≡ [])
    × (string_bytes found ≡ listed (properties_of file))
IsWhyNoneAsked name file (Several found) = (1 < length (asked_of name file))
    × (string_bytes found ≡ listed (asked_of name file))

-- The text is a TOML file in which the property that is asked for has the table's trie.
pub record IsAskedTable (text : List ℕ) (name : Option (List ℕ)) (t : Table) : Type 0 where
  pub file : Members
  pub reads : parse_document text ≡ Some file
  pub chosen : Members
  pub choice : chosen_trie name file ≡ Some chosen
  pub trie : IsTomlTrieOf chosen t

-- Why a TOML text has no such table.
abbrev pub IsWhyNotAsked : List ℕ → Option (List ℕ) → PropertyError → Type 0
IsWhyNotAsked text name fault =
    (file : Members) × (parse_document text ≡ Some file) × IsWhyNoneAsked name file fault

-- ---- Files in other forms

-- What `read_table` returns for a file in each form but TOML.
pub record IsReadOf (file : List ℕ) (read : Result Table ReadError) : Type 0 where
  pub binary : HasSignature file → MatchResult read (IsBinaryOf file) (IsWhyNoBinary file)
  pub swapped : HasSwappedSignature file
      → MatchResult read (IsSwappedOf file) (IsWhyNoSwapped file)
  pub json : IsTakenForJson file → MatchResult read (IsJsonOf file) (IsWhyNoJson file)
  pub text : HasNoForm file → read ≡ Err Text

-- The same as the result of `read_property`.
abbrev pub of_property : Result Table ReadError → Result Table PropertyError
of_property (Ok t) = Ok t
of_property (Err fault) = Err (Read fault)

-- The file as TOML, if it is taken for that.
abbrev pub IsTomlFileOf : List ℕ → Option (BTreeMap (String Global) Value) → Type 0
IsTomlFileOf file None = ¬ IsTakenForToml file
IsTomlFileOf file (Some table) =
    IsTakenForToml file × (parse_document file ≡ Some (table_view table))
