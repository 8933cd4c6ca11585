-- The arguments of the program: KIND DEFAULT ERROR [HEX ..].
use Rattle.std.specs.Prelude.{ℕ, nat_le, nat_eq, List, ◌∷◌, Option, Some, None, is_some, codes, if◌then◌else◌}
use Rattle.std.specs.List.{list_all, filter_map}
use Rattle.std.specs.Option.{option_and_then}
use Rattle.std.specs.Cmp.Lexicographic.{pointwise}
use Rattle.icu_trie_core.specs.declared.header.TrieType.{TrieType}
use Rattle.icu_trie_core.specs.declared.header.TrieType.TheVariants.{Fast, Small}
use Rattle.ucptab_table.specs.TableText.{hexadecimal, decimal_number}

-- what the arguments ask for: a trie of this type over these values, and the asked numbers
pub record Arguments : Type 0 where
  pub trie_type : TrieType
  pub default : ℕ
  pub error : ℕ
  pub asked : List ℕ

-- `fast` or `small`
unfoldable pub trie_type_of : List ℕ → Option TrieType
trie_type_of word =
    if pointwise nat_eq word (codes "fast") then Some Fast
    else (if pointwise nat_eq word (codes "small") then Some Small else None)

-- a value: 1 to 10 decimal digits of at most 4294967295
unfoldable pub value_of : List ℕ → Option ℕ
value_of word =
    option_and_then (λ n. if nat_le n 0xFFFFFFFF then Some n else None) (decimal_number word)

-- the numbers of the words if each is HEX, and none if one is not
unfoldable pub asked_of : List (List ℕ) → Option (List ℕ)
asked_of words = if list_all (λ word. is_some (hexadecimal word)) words
    then Some (filter_map hexadecimal words) else None

-- the first three words and the asked numbers together
abbrev pub arguments : Option TrieType → Option ℕ → Option ℕ → Option (List ℕ) → Option Arguments
arguments (Some trie_type) (Some default) (Some error) (Some asked) =
    Some (record { trie_type = trie_type; default = default; error = error; asked = asked })
arguments trie_type default error asked = None

-- what the words after the program's name ask for, and none if they can't be read
unfoldable pub arguments_of : List (List ℕ) → Option Arguments
arguments_of (kind ∷ (default ∷ (error ∷ asked))) =
    arguments (trie_type_of kind) (value_of default) (value_of error) (asked_of asked)
arguments_of words = None
