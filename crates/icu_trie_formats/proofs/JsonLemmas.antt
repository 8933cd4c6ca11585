-- The items of a JSON array; what is written of a trie is read back.
use Rattle.std.proofs.Common.{◌≡◌, ℕ, suc, ◌+◌, ◌<◌, ◌^◌, List, [], ◌∷◌, true, Option, Some, None, Result, Ok, refl, ap, subst, ◌∙◌, map, arith}
use Rattle.std.proofs.lemmas.Bool.{lt-ltb}
use Rattle.std.proofs.lemmas.List.{map-id}
use Rattle.std.specs.Prelude.{All, nat_lt, codes, option_and_then}
use Rattle.std.specs.Option.{ok_or}
use Rattle.serde_json.proofs.OnLiterals.{serde_json_on_literals}
use Rattle.serde_json.specs.Data.{Data, number, unsigned}
use Rattle.serde_json.specs.View.{view, items_view, items_of}
use Rattle.serde_json.specs.declared.value.Value.{Value}
use Rattle.icu_trie_core.specs.ValueNumbers.{fitting}
use Rattle.icu_trie.specs.Parts.{Parts, parts_fault}
use Rattle.icu_trie_core.specs.declared.header.TrieType.{TrieType}
use Rattle.icu_trie_core.specs.declared.header.TrieType.TheVariants.{Fast, Small}
use Rattle.icu_trie_core.specs.declared.header.CodePointTrieHeader.{CodePointTrieHeader}
use Rattle.icu_zerovec.specs.FirstFault.{and_then, before, read_from}
use Rattle.icu_trie_formats.specs.TrieJson.{JsonFault, list_of, number_of, number_or, value_of, values_of, cells_of, no_number, no_value, header_of, header_json, json_of, trie_object, numbers_json, of_parts, trie_with, trie_of_json}
use Rattle.icu_trie_formats.specs.TrieOfParts.{unless_fault}
use Rattle.icu_trie_formats.specs.Inside.Numbers.{IsGivenBack}

pub list_of-items_view : (vs : List Value) → list_of (items_view vs) ≡ map view vs
list_of-items_view [] = refl
list_of-items_view (v ∷ vs) = ap (λ z. view v ∷ z) (list_of-items_view vs)

-- ---- the header
fields_read : (kind : TrieType) (a b c d e : ℕ) → nat_lt a (2 ^ 32) ≡ true → nat_lt b (2 ^ 32) ≡ true → nat_lt b (2 ^ 16) ≡ true
    → nat_lt c (2 ^ 32) ≡ true → nat_lt c (2 ^ 16) ≡ true → nat_lt d (2 ^ 32) ≡ true → nat_lt e (2 ^ 32) ≡ true
    → header_of
    (header_json (record {
      high_start = a;
      shifted12_high_start = b;
      index3_null_offset = c;
      data_null_offset = d;
      null_value = e;
      trie_type = kind;
    })) ≡ Ok (record {
      high_start = a;
      shifted12_high_start = b;
      index3_null_offset = c;
      data_null_offset = d;
      null_value = e;
      trie_type = kind;
    })
unfolding serde_json_on_literals
fields_read Fast a b c d e ha hb hb' hc hc' hd he = rw (ha, ha, hb, hb', hc, hc', hd, hd, he, he)
fields_read Small a b c d e ha hb hb' hc hc' hd he = rw (ha, ha, hb, hb', hc, hc', hd, hd, he, he)

pub header_read : (h : CodePointTrieHeader) → h.high_start < 2 ^ 32 → h.shifted12_high_start < 2 ^ 16 → h.index3_null_offset < 2 ^ 16
    → h.data_null_offset < 2 ^ 32 → h.null_value < 2 ^ 32 → header_of (header_json h) ≡ Ok h
header_read h a b c d e =
    fields_read h.trie_type h.high_start h.shifted12_high_start h.index3_null_offset h.data_null_offset h.null_value
    (lt-ltb h.high_start (2 ^ 32) a) (lt-ltb h.shifted12_high_start (2 ^ 32) (omega arith)) (lt-ltb h.shifted12_high_start (2 ^ 16) b)
    (lt-ltb h.index3_null_offset (2 ^ 32) (omega arith)) (lt-ltb h.index3_null_offset (2 ^ 16) c) (lt-ltb h.data_null_offset (2 ^ 32) d)
    (lt-ltb h.null_value (2 ^ 32) e)

-- ---- the arrays
list_back : (ds : List Data) → list_of (items_of ds) ≡ ds
list_back [] = refl
list_back (d ∷ ds) = ap (λ z. d ∷ z) (list_back ds)

number_read : (n : ℕ) → n < 2 ^ 32 → number_of (number (unsigned n)) ≡ Some n
number_read n h = rw (lt-ltb n (2 ^ 32) h)

value_read : {T : Type 0} (num : T → ℕ) (range : ℕ → Option T) (i : ℕ) (x : T) → IsGivenBack num range x
    → value_of range i (number (unsigned (num x))) ≡ Ok x
value_read num range i x h =
    ap (λ o. and_then (ok_or o (no_number (codes "data"))) (λ n. ok_or (range n) (no_value i))) (number_read (num x) h.0)
    ∙ ap (λ o. ok_or o (no_value i)) h.1

values_from : {T : Type 0} (num : T → ℕ) (range : ℕ → Option T) (i : ℕ) (xs : List T) → All (IsGivenBack num range) xs
    → read_from (value_of range) i (map (λ n. number (unsigned n)) (map num xs)) ≡ Ok xs
unfolding read_from
values_from num range i [] h = refl
values_from num range i (x ∷ xs) h =
    ap (λ z. before z (read_from (value_of range) (i + 1) (map (λ n. number (unsigned n)) (map num xs))))
    (value_read num range i x (h 0 x (omega arith)))
    ∙ ap (before (Ok x)) (values_from num range (i + 1) xs (λ k d lt. h (suc k) d (omega arith)))

cell_read : (n : ℕ) → IsGivenBack (λ x. x) (fitting (2 ^ 16)) n → number_or (fitting (2 ^ 16)) (codes "index") (number (unsigned n)) ≡ Ok n
cell_read n h =
    ap (λ o. ok_or (option_and_then (fitting (2 ^ 16)) o) (no_number (codes "index"))) (number_read n h.0)
    ∙ ap (λ o. ok_or o (no_number (codes "index"))) h.1

cells_from : (i : ℕ) (ns : List ℕ) → All (IsGivenBack (λ x. x) (fitting (2 ^ 16))) ns
    → read_from (λ _ d. number_or (fitting (2 ^ 16)) (codes "index") d) i (map (λ n. number (unsigned n)) ns) ≡ Ok ns
unfolding read_from
cells_from i [] h = refl
cells_from i (n ∷ ns) h =
    ap (λ z. before z (read_from (λ _ d. number_or (fitting (2 ^ 16)) (codes "index") d) (i + 1) (map (λ n. number (unsigned n)) ns)))
    (cell_read n (h 0 n (omega arith)))
    ∙ ap (before (Ok n)) (cells_from (i + 1) ns (λ k d lt. h (suc k) d (omega arith)))

-- ---- the trie
--
-- The steps after the kinds of the members are checked.
abbrev steps : {T : Type 0} → (ℕ → Option T) → Result CodePointTrieHeader JsonFault → List Data → List Data → Result (Parts T) JsonFault
steps range h index values =
    and_then h (λ h. and_then (cells_of index) (λ index. and_then (values_of range values) (λ values. trie_with range h index values)))

shapes_read : {T : Type 0} (num : T → ℕ) (range : ℕ → Option T) (t : Parts T)
    → trie_of_json range (json_of num t) ≡ steps range (header_of (header_json t.header))
    (list_of (items_of (map (λ n. number (unsigned n)) t.index))) (list_of (items_of (map (λ n. number (unsigned n)) (map num t.values))))
unfolding serde_json_on_literals
shapes_read num range t = refl

-- What is written is read back if the parts are valid.
pub json_read : {T : Type 0} (num : T → ℕ) (range : ℕ → Option T) (t : Parts T) → header_of (header_json t.header) ≡ Ok t.header
    → All (IsGivenBack (λ x. x) (fitting (2 ^ 16))) t.index → All (IsGivenBack num range) t.values
    → parts_fault range t.header t.index t.values ≡ None → trie_of_json range (json_of num t) ≡ Ok t
json_read num range t h index values none =
    shapes_read num range t
    ∙ ap (λ z. steps range z (list_of (items_of (map (λ n. number (unsigned n)) t.index)))
    (list_of (items_of (map (λ n. number (unsigned n)) (map num t.values))))) h
    ∙ ap (λ z. steps range (Ok t.header) z (list_of (items_of (map (λ n. number (unsigned n)) (map num t.values)))))
    (list_back (map (λ n. number (unsigned n)) t.index))
    ∙ ap (λ z. and_then z (λ index. and_then (values_of range (list_of (items_of (map (λ n. number (unsigned n)) (map num t.values)))))
    (λ values. trie_with range t.header index values))) (cells_from 0 t.index index)
    ∙ ap (λ z. and_then (values_of range z) (λ values. trie_with range t.header t.index values))
    (list_back (map (λ n. number (unsigned n)) (map num t.values)))
    ∙ ap (λ z. and_then z (λ values. trie_with range t.header t.index values)) (values_from num range 0 t.values values)
    ∙ ap (λ z. unless_fault of_parts z t) none

pub written : {T : Type 0} (num : T → ℕ) (t : Parts T) (v h i d : Data) (header : CodePointTrieHeader) (index : List ℕ) (values : List T)
    → header ≡ t.header → index ≡ t.index → values ≡ t.values
    → v ≡ trie_object h i d → h ≡ header_json header → i ≡ numbers_json (map (λ n. n) index) → d ≡ numbers_json (map num values)
    → v ≡ json_of num t
written num t v h i d header index values eh ei ev whole hj ij dj =
    whole ∙ ap (λ z. trie_object z i d) (hj ∙ ap header_json eh)
    ∙ ap (λ z. trie_object (header_json t.header) z d) (ij ∙ ap numbers_json (map-id index ∙ ei))
    ∙ ap (λ z. trie_object (header_json t.header) (numbers_json t.index) z) (dj ∙ ap (λ z. numbers_json (map num z)) ev)

pub written_is_read : {T : Type 0} (num : T → ℕ) (range : ℕ → Option T) (t : Parts T) (v : Data) (header : CodePointTrieHeader)
    (index : List ℕ) (values : List T) → header ≡ t.header → index ≡ t.index → values ≡ t.values
    → header_of (header_json header) ≡ Ok header → All (IsGivenBack (λ x. x) (fitting (2 ^ 16))) index → All (IsGivenBack num range) values
    → v ≡ json_of num t → parts_fault range t.header t.index t.values ≡ None → trie_of_json range v ≡ Ok t
written_is_read {T} num range t v header index values eh ei ev hb ib vb e none =
    let H : CodePointTrieHeader → Type 0 = λ z. header_of (header_json z) ≡ Ok z in
    let I : List ℕ → Type 0 = λ z. All (IsGivenBack (λ x. x) (fitting (2 ^ 16))) z in
    let V : List T → Type 0 = λ z. All (IsGivenBack num range) z in
    ap (trie_of_json range) e ∙ json_read num range t (subst H eh hb) (subst I ei ib) (subst V ev vb) none
