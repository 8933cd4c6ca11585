-- Names of values in TOML: pairs and names with numbers, and the items of an array.
use Rattle.std.proofs.Common.{◌≡◌, ℕ, Bool, true, false, List, [], ◌∷◌, map, refl, ap}
use Rattle.toml.specs.View.{view, items_view}
use Rattle.toml.specs.declared.value.Value.{Value}
use Rattle.icu_trie_formats.specs.TrieToml.{list_of}
use Rattle.ucd_files.specs.Names.{is_match, number_named, pairs_of}
use Rattle.ucd_files.specs.declared.names.Matching.TheVariants.{Exact}
use Rattle.ucd_files.specs.declared.names.Name.{Name}
use Rattle.ucptrie_readers.specs.TomlNames.{number_in}

pub list_of-items_view : (vs : List Value) → list_of (items_view vs) ≡ map view vs
list_of-items_view [] = refl
list_of-items_view (v ∷ vs) = ap (λ z. view v ∷ z) (list_of-items_view vs)

-- The number of a name is that of the first pair with its text.
pub number_in_pairs : (names : List Name) (text : List ℕ) → number_in (pairs_of names) text ≡ number_named Exact names text
unfolding number_named
number_in_pairs [] text = refl
number_in_pairs (name ∷ names) text = by_test (is_match Exact name.text.now text) refl (number_in_pairs names text) where
  by_test : (same : Bool) → is_match Exact name.text.now text ≡ same
      → number_in (pairs_of names) text ≡ number_named Exact names text
      → number_in (pairs_of (name ∷ names)) text ≡ number_named Exact (name ∷ names) text
  by_test true is more = rw is refl
  by_test false is more = rw is more
