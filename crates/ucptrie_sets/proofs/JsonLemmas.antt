-- The JSON of a set has texts alone, and no number.
use Rattle.std.proofs.Common.{◌≡◌, ℕ, List, [], ◌∷◌, map, false, refl, ◌∙◌, ap}
use Rattle.std.specs.Str.{encode_utf8_all}
use Rattle.serde_json.specs.Data.{Data, string}
use Rattle.serde_json.specs.View.{items_of}
use Rattle.serde_json.specs.Written.{compact_text, has_float, items_have_float}
use Rattle.icu_invlist.specs.SetJson.{texts_of, written_of}

texts-no_float : (ts : List (List ℕ)) → items_have_float (items_of (map (λ t. string (encode_utf8_all t)) ts)) ≡ false
texts-no_float [] = refl
texts-no_float (t ∷ ts) = texts-no_float ts

pub text_of_json : (ends : List ℕ) (v : Data) (bytes : List ℕ) → v ≡ written_of ends → (has_float v ≡ false → bytes ≡ compact_text v)
    → bytes ≡ compact_text (written_of ends)
text_of_json ends v bytes is text = text (ap has_float is ∙ texts-no_float (texts_of ends)) ∙ ap compact_text is
