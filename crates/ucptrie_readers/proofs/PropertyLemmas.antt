-- The properties of a TOML file that are asked for, one key after another.
use Rattle.std.proofs.Common.{◌≡◌, ℕ, List, [], ◌∷◌, ◌++◌, append_assoc, append-nil, Option, None, String, Global, string_bytes, refl, sym, ap, ◌∙◌}
use Rattle.std.proofs.lemmas.List.Elements.{filter-append}
use Rattle.std.specs.Prelude.{filter}
use Rattle.toml.specs.Data.{Members}
use Rattle.toml.specs.View.{members_view, view}
use Rattle.toml.specs.declared.value.Value.{Value}
use Rattle.ucptrie_readers.specs.Properties.{TrieProperty, asked_of, is_asked, properties_at, properties_of}

abbrev pub Entry : Type 0
Entry = String Global × Value

properties_of-last : (es : List Entry) (e : Entry)
    → properties_of (members_view (es ++ e ∷ [])) ≡ properties_of (members_view es) ++ properties_at (string_bytes e.0) (view e.1)
properties_of-last [] e = append-nil (properties_at (string_bytes e.0) (view e.1))
properties_of-last (x ∷ es) e =
    ap (λ ps. properties_at (string_bytes x.0) (view x.1) ++ ps) (properties_of-last es e)
    ∙ sym (append_assoc (properties_at (string_bytes x.0) (view x.1)) (properties_of (members_view es))
    (properties_at (string_bytes e.0) (view e.1)))

-- one more key
pub asked_of-last : (name : Option (List ℕ)) (es : List Entry) (e : Entry)
    → asked_of name (members_view (es ++ e ∷ []))
    ≡ asked_of name (members_view es) ++ filter (is_asked name) (properties_at (string_bytes e.0) (view e.1))
asked_of-last name es e =
    ap (filter (is_asked name)) (properties_of-last es e)
    ∙ filter-append (is_asked name) (properties_of (members_view es)) (properties_at (string_bytes e.0) (view e.1))

all-asked : (ps : List TrieProperty) → filter (is_asked None) ps ≡ ps
all-asked [] = refl
all-asked (p ∷ ps) = ap (λ qs. p ∷ qs) (all-asked ps)

-- if no name is asked, all properties are asked for
pub asked_of-none : (file : Members) → asked_of None file ≡ properties_of file
asked_of-none file = all-asked (properties_of file)
