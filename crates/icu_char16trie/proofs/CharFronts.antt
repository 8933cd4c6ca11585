-- The first characters of a text, their units and their bytes.
use Rattle.std.proofs.Common.{◌≡◌, ℕ, ℤ, ◌+◌, ◌<◌, ◌≤◌, Bool, true, false, cond, nat_lt, ◌&&◌, ◌-◌, ◌/◌, ◌%◌, zero, suc, List, [], ◌∷◌, ◌++◌, Option, Some, None, length, take, drop, sym, ap, refl, ◌∙◌, arith, append-nil, length-append}
use Rattle.std.proofs.Math.Utf8.{scalar, scalars, encode, encodes}
use Rattle.std.proofs.lemmas.Str.{encodes-append, encodes-chars, scalars-chars, IsCharBoundary-from_take}
use Rattle.std.proofs.Math.Seq.{take-append_seam}
use Rattle.std.proofs.lemmas.Grind.{flat_map-append}
use Rattle.std.proofs.lemmas.List.{take-append-drop}
use Rattle.std.specs.Prelude.{IfSome, encode_utf8_all}
use Rattle.std.specs.Char.{encode_utf8}
use Rattle.std.specs.Char.Escape.{encode_utf16}
use Rattle.std.specs.List.{flat_map}
use Rattle.std.specs.Str.{chars, IsCharBoundary, IsUtf8}
use Rattle.icu_char16trie.specs.Matches.{front_units, in_bytes}
use Rattle.icu_char16trie.specs.Inside.Fronts.{longer}
use Rattle.icu_char16trie.proofs.FrontLemmas.{front_more}

-- A character has a unit.
some_unit : (c : ℕ) → (u : ℕ) × (more : List ℕ) × (encode_utf16 c ≡ u ∷ more)
some_unit c = by (nat_lt c 0x1_0000)
  where
    by : (b : Bool) → (u : ℕ) × (more : List ℕ)
        × (cond b (c ∷ []) ((0xD800 + (c - 0x1_0000) / 0x400) ∷ (0xDC00 + (c - 0x1_0000) % 0x400) ∷ []) ≡ u ∷ more)
    by true = (c, [], refl)
    by false = (0xD800 + (c - 0x1_0000) / 0x400, (0xDC00 + (c - 0x1_0000) % 0x400) ∷ [], refl)

-- The units of more characters start with those of fewer.
pub units_more : (cs : List ℕ) (i k : ℕ) → i < k → k ≤ length cs
    → (u : ℕ) × (more : List ℕ) × (front_units cs k ≡ front_units cs i ++ u ∷ more)
units_more cs i k below within =
    let t = front_more cs i k below within in
    let one = some_unit t.0 in (
      one.0,
      one.1 ++ flat_map encode_utf16 t.1,
      ap (flat_map encode_utf16) t.2 ∙ flat_map-append encode_utf16 (take i cs) (t.0 ∷ t.1)
          ∙ ap (λ z. front_units cs i ++ (z ++ flat_map encode_utf16 t.1)) one.2,
    )

-- ---- bytes

-- The bytes of the first characters and those of the others are the bytes of the text.
whole_text : (text : List ℕ) (k : ℕ) → IsUtf8 text → encodes (take k (chars text)) ++ encodes (drop k (chars text)) ≡ text
whole_text text k u =
    sym (encodes-append (take k (chars text)) (drop k (chars text))) ∙ ap encodes (take-append-drop k (chars text)) ∙ encodes-chars text u

bytes_within : (text : List ℕ) (k : ℕ) → IsUtf8 text → length (encode_utf8_all (take k (chars text))) ≤ length text
bytes_within text k u =
    omega (arith, ap length (whole_text text k u), length-append (encodes (take k (chars text))) (encodes (drop k (chars text))))

scalars_take : (cs : List ℕ) (k : ℕ) → scalars cs ≡ true → scalars (take k cs) ≡ true
scalars_take [] zero h = refl
scalars_take [] (suc k) h = refl
scalars_take (c ∷ cs) zero h = refl
scalars_take (c ∷ cs) (suc k) h = by (scalar c) h (scalars_take cs k)
  where
    by : (b : Bool) → (b && scalars cs) ≡ true → (scalars cs ≡ true → scalars (take k cs) ≡ true) → (b && scalars (take k cs)) ≡ true
    by true h rest = rest h
    by false h rest = h

-- The end of some first characters is a character boundary.
pub cut_after : (text : List ℕ) (k : ℕ) → IsUtf8 text → IsCharBoundary text (length (encode_utf8_all (take k (chars text))))
cut_after text k u =
    let bytes : List ℕ = encodes (take k (chars text)) in
    let front : bytes ≡ take (length bytes) text =
    sym (take-append_seam bytes (encodes (drop k (chars text)))) ∙ ap (λ (z : List ℕ). take (length bytes) z) (whole_text text k u) in
    IsCharBoundary-from_take text _ u (bytes_within text k u)
    (take k (chars text), (scalars_take (chars text) k (scalars-chars text u), front))

-- The bytes of one more character.
pub bytes_next : (cs : List ℕ) (c : ℕ) → length (encode_utf8_all (cs ++ c ∷ [])) ≡ length (encode_utf8_all cs) + length (encode_utf8 c)
bytes_next cs c =
    ap length (encodes-append cs (c ∷ [])) ∙ length-append (encodes cs) (encodes (c ∷ []))
    ∙ ap (λ (z : List ℕ). length (encodes cs) + length z) (append-nil (encode c))

-- The longest match in bytes, once one more character is looked up.
pub longer_bytes : (cs : List ℕ) (k n : ℕ) (v : Option ℤ) (found : Option (ℕ × ℤ)) → n ≡ length (encode_utf8_all (take k cs))
    → longer n v (in_bytes cs found) ≡ in_bytes cs (longer k v found)
longer_bytes cs k n None found e = refl
longer_bytes cs k n (Some v) found e = ap (λ z. Some (z, v)) e

-- A match in bytes ends at a character boundary.
pub ends_at_boundary : (text : List ℕ) (found : Option (ℕ × ℤ)) → IsUtf8 text
    → IfSome (in_bytes (chars text) found) (λ f. IsCharBoundary text f.0)
ends_at_boundary text None u = tt
ends_at_boundary text (Some found) u = cut_after text found.0 u
