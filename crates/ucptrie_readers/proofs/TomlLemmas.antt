-- The first value of a TOML table that has a trie.
use Rattle.std.proofs.Common.{◌≡◌, List, [], ◌∷◌, ◌++◌, map, Option, Some, None, unwrap_or, String, Global, BTreeMap, refl, ap, ◌∙◌}
use Rattle.std.specs.Option.{option_or}
use Rattle.toml.specs.Data.{Members}
use Rattle.toml.specs.View.{members_view, table_view, view}
use Rattle.toml.specs.declared.value.Value.{Value}
use Rattle.ucptrie_readers.specs.TomlFiles.{first_trie, trie_of_property, trie_table}

-- the trie of the first of these values that has one
abbrev pub first_among : List Value → Option Members
first_among [] = None
first_among (v ∷ vs) = option_or (trie_of_property (view v)) (first_among vs)

or-again : (o p q : Option Members) → p ≡ q → option_or o p ≡ option_or o q
or-again o p q e = ap (option_or o) e

pub first_trie-values : (es : List (String Global × Value)) → first_trie (members_view es) ≡ first_among (map (λ e. e.1) es)
first_trie-values [] = refl
first_trie-values (e ∷ es) = or-again (trie_of_property (view e.1)) _ _ (first_trie-values es)

none-then : (o p : Option Members) → option_or o p ≡ None → (o ≡ None) × (p ≡ None)
none-then None p e = (refl, e)
none-then (Some m) p e = absurd (cc)

-- no value of the first ones has a trie
pub first_among-append : (xs ys : List Value) → first_among xs ≡ None → first_among (xs ++ ys) ≡ first_among ys
first_among-append [] ys none = refl
first_among-append (x ∷ xs) ys none =
    let parts = none-then (trie_of_property (view x)) (first_among xs) none in
    rw parts.0 (first_among-append xs ys parts.1)

-- one more value without a trie
pub first_among-last : (xs : List Value) (x : Value) → first_among xs ≡ None → trie_of_property (view x) ≡ None
    → first_among (xs ++ x ∷ []) ≡ None
first_among-last [] x none here = rw here refl
first_among-last (y ∷ xs) x none here =
    let parts = none-then (trie_of_property (view y)) (first_among xs) none in
    rw parts.0 (first_among-last xs x parts.1 here)

-- the first value with a trie, and none
pub trie_table-found : (file : BTreeMap (String Global) Value) (before after : List Value) (v : Value) (trie : Members)
    → map (λ e. e.1) file.entries ≡ before ++ (v ∷ after) → first_among before ≡ None → trie_of_property (view v) ≡ Some trie
    → trie_table (table_view file) ≡ trie
trie_table-found file before after v trie is none here =
    let first : first_trie (members_view file.entries) ≡ Some trie =
    first_trie-values file.entries
    ∙ (ap first_among is ∙ (first_among-append before (v ∷ after) none ∙ ap (λ o. option_or o (first_among after)) here))
    in ap (λ o. unwrap_or o (table_view file)) first

pub trie_table-none : (file : BTreeMap (String Global) Value) → first_among (map (λ e. e.1) file.entries) ≡ None
    → trie_table (table_view file) ≡ table_view file
trie_table-none file none = ap (λ o. unwrap_or o (table_view file)) (first_trie-values file.entries ∙ none)
