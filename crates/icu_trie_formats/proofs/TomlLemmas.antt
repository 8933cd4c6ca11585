-- The items of a TOML array, and the trie of a table after its header and its values.
use Rattle.std.proofs.Common.{◌≡◌, ℕ, List, [], ◌∷◌, Option, Result, Ok, Err, IfOk, IfErr, refl, sym, ap, subst, ◌∙◌, map}
use Rattle.toml.specs.View.{view, items_view}
use Rattle.toml.specs.declared.value.Value.{Value}
use Rattle.icu_zerovec.specs.FirstFault.{and_then}
use Rattle.icu_trie_formats.specs.TrieToml.{list_of, TrieFault, TomlParts, GivesHeader, header_with, type_of, typed_data, trie_with, trie_of, IsRefusedTrie, GivesTrie}
use Rattle.icu_trie_formats.specs.declared.trie_toml.TrieFromTomlError.{TrieFromTomlError}
use Rattle.icu_trie.specs.Parts.{Parts}
use Rattle.icu_trie_core.specs.ValueNumbers.{type_number}
use Rattle.icu_trie_core.specs.declared.header.TrieType.{TrieType}
use Rattle.icu_trie_core.specs.declared.header.TrieType.TheVariants.{Fast, Small}
use Rattle.icu_trie_core.specs.declared.header.CodePointTrieHeader.{CodePointTrieHeader}

pub list_of-items_view : (vs : List Value) → list_of (items_view vs) ≡ map view vs
list_of-items_view [] = refl
list_of-items_view (v ∷ vs) = ap (λ z. view v ∷ z) (list_of-items_view vs)

type_of_number : (k : TrieType) (n : ℕ) → n ≡ type_number k → type_of n ≡ Ok k
type_of_number Fast n e = rw e
type_of_number Small n e = rw e

-- After the header and the values, the trie is the one of these parts.
pub same_trie : {T : Type 0} (range : ℕ → Option T) (t : TomlParts) (h : CodePointTrieHeader) (values : List T) (index : List ℕ)
    (cells : List T) → GivesHeader t (Ok h) → typed_data range t ≡ Ok values → index ≡ t.index → cells ≡ values
    → trie_of range t ≡ trie_with range h index cells
same_trie range t h values index cells g d i v =
    ap (λ z. and_then z (λ kind. and_then (typed_data range t) (λ vs. trie_with range (header_with t.fields kind) t.index vs)))
    (type_of_number h.trie_type t.fields.trie_type g.1)
    ∙ ap (λ z. and_then z (λ vs. trie_with range (header_with t.fields h.trie_type) t.index vs)) d
    ∙ ap (λ z. trie_with range z t.index values) (sym g.0)
    ∙ ap (λ z. trie_with range h z values) (sym i)
    ∙ ap (λ z. trie_with range h index z) (sym v)

pub gives_trie : {T : Type 0} (range : ℕ → Option T) (t : TomlParts) (w : Result (Parts T) TrieFault)
    (r : Result (Parts T) TrieFromTomlError) → trie_of range t ≡ w → IfOk r (λ x. w ≡ Ok x) → IfErr r (IsRefusedTrie w)
    → GivesTrie range t r
gives_trie range t w (Ok x) same ok err = same ∙ ok
gives_trie {T} range t w (Err e) same ok err =
    let P : Result (Parts T) TrieFault → Type 0 = λ z. IsRefusedTrie z e in
    subst P (sym same) err
