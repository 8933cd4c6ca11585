-- The strings of a JSON array. A set that is written to JSON is read back unchanged.
use Rattle.std.proofs.Common.{◌≡◌, ℕ, ◌+◌, List, [], ◌∷◌, None, Result, Ok, refl, sym, ap, ◌∙◌, map, inl}
use Rattle.serde_json.proofs.OnLiterals.{serde_json_on_literals}
use Rattle.serde_json.specs.Data.{Data, string}
use Rattle.serde_json.specs.View.{items_of}
use Rattle.icu_zerovec.specs.FirstFault.{before, read_from}
use Rattle.icu_invlist.specs.InversionList.{IsValid}
use Rattle.icu_invlist.specs.SetJson.{ends_of, list_of, written_of}
use Rattle.icu_invlist.specs.declared.codepointinvlist.error.SetJsonError.{SetJsonError}
use Rattle.icu_text_sets.specs.TextSet.{TextSet, IsStringList}
use Rattle.icu_text_sets.specs.TextFaults.{strings_fault}
use Rattle.icu_text_sets.specs.TextSetJson.{JsonFault, text_or, texts_said, set_unless, json_of, IsReadWith, IsRead}
use Rattle.icu_text_sets.proofs.Walks.{no_fault}

-- ---- a written set is read back
list_of-items_of : (ds : List Data) → list_of (items_of ds) ≡ ds
list_of-items_of [] = refl
list_of-items_of (d ∷ ds) = ap (λ z. d ∷ z) (list_of-items_of ds)

texts_read : (i : ℕ) (texts : List (List ℕ)) → read_from text_or i (map (λ t. string t) texts) ≡ Ok texts
unfolding read_from
texts_read i [] = refl
texts_read i (t ∷ texts) = ap (before (Ok t)) (texts_read (i + 1) texts)

said_back : (set : TextSet) → texts_said (json_of set) ≡ Ok set.strings
unfolding serde_json_on_literals
said_back set = ap (read_from text_or 0) (list_of-items_of (map (λ t. string t) set.strings)) ∙ texts_read 0 set.strings

read_with : (ends : List ℕ) (texts : List (List ℕ)) (points : Result (List ℕ) SetJsonError) (said : Result (List (List ℕ)) JsonFault)
    → points ≡ Ok ends → said ≡ Ok texts → IsValid ends → strings_fault texts ≡ None
    → IsReadWith points said (Ok (record { code_points = ends; strings = texts }))
read_with ends texts points said e t v n = rw (e, t) (inl (v, sym (ap (set_unless ends texts) n)))

pub json_read : (set : TextSet) → IsValid set.code_points → IsStringList set.strings
    → ends_of (written_of set.code_points) ≡ Ok set.code_points → IsRead (json_of set) (Ok set)
unfolding serde_json_on_literals
json_read set v s e = read_with set.code_points set.strings (ends_of (written_of set.code_points))
    (texts_said (json_of set)) e (said_back set) v (no_fault set.strings s)
