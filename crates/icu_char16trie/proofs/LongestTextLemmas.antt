-- The longest match of a text in UTF-8, found from node to node.
use Rattle.std.proofs.Common.{◌≡◌, ℕ, ℤ, zero, suc, ◌+◌, ◌-◌, ◌/◌, ◌<◌, ◌≤◌, true, List, [], ◌∷◌, ◌++◌, Option, Some, None, length, take, drop, refl, sym, ap, subst, ◌∙◌, ◌⊎◌, inl, inr, arith, length-append, length-drop}
use Rattle.std.proofs.Math.Seq.{drop-append_seam, take-append_seam}
use Rattle.std.proofs.Math.Utf8.{encodes, scalar, scalar_cases, scalars}
use Rattle.std.proofs.lemmas.Bool.{and_parts}
use Rattle.std.proofs.lemmas.Grind.{flat_map-append}
use Rattle.std.proofs.lemmas.List.{take-append-drop}
use Rattle.std.proofs.lemmas.Str.{encodes-append, encodes-chars, scalars-chars}
use Rattle.std.specs.Char.Escape.{encode_utf16}
use Rattle.std.specs.Int.{IsInRange}
use Rattle.std.specs.List.{flat_map}
use Rattle.std.specs.Prelude.{encode_utf8_all}
use Rattle.std.specs.Str.{IsUtf8, chars}
use Rattle.icu_char16trie.specs.UnitPlaces.{value_at}
use Rattle.icu_char16trie.specs.Matches.{HasCharsStepped, HasFrontStepped, HasValueAlong, IsLongestSteppedInText, LongestWithin, front_units, in_bytes, text_units}
use Rattle.icu_char16trie.specs.Inside.Fronts.{LeadsToNode, longer}
use Rattle.icu_char16trie.specs.Inside.Texts.{AreTextUnits, after_second, longer_after}
use Rattle.icu_char16trie.specs.declared.place.Place.TheVariants.{Node}
use Rattle.icu_char16trie.specs.declared.text_units.TextUnits.{TextUnits}
use Rattle.icu_char16trie.proofs.CharFronts.{longer_bytes, units_more}
use Rattle.icu_char16trie.proofs.FrontLemmas.{within_or_above}
use Rattle.icu_char16trie.proofs.LongestLemmas.{NoneAbove, none_between}
use Rattle.icu_char16trie.proofs.PassedLemmas.{two_units}
use Rattle.icu_char16trie.proofs.StandsLemmas.{longest_as}
use Rattle.icu_char16trie.proofs.TextLemmas.{HasRead, one_unit}

-- ---- the units of the first characters

units_of : (cs : List ℕ) (k : ℕ) → front_units cs k ++ flat_map encode_utf16 (drop k cs) ≡ flat_map encode_utf16 cs
units_of cs k = sym (flat_map-append encode_utf16 (take k cs) (drop k cs)) ∙ ap (flat_map encode_utf16) (take-append-drop k cs)

first_units : (cs : List ℕ) (k : ℕ) → take (length (front_units cs k)) (flat_map encode_utf16 cs) ≡ front_units cs k
first_units cs k =
    ap (λ (z : List ℕ). take (length (front_units cs k)) z) (sym (units_of cs k))
    ∙ take-append_seam (front_units cs k) (flat_map encode_utf16 (drop k cs))

other_units : (cs : List ℕ) (k : ℕ) → drop (length (front_units cs k)) (flat_map encode_utf16 cs) ≡ flat_map encode_utf16 (drop k cs)
other_units cs k =
    ap (λ (z : List ℕ). drop (length (front_units cs k)) z) (sym (units_of cs k))
    ∙ drop-append_seam (front_units cs k) (flat_map encode_utf16 (drop k cs))

units_fit : (cs : List ℕ) (k : ℕ) → length (front_units cs k) ≤ length (flat_map encode_utf16 cs)
units_fit cs k = omega (arith, ap length (units_of cs k), length-append (front_units cs k) (flat_map encode_utf16 (drop k cs)))

-- A prefix of units that are whole characters has the value of these characters.
as_chars : (units cs : List ℕ) (k n : ℕ) (v : Option ℤ) → length (front_units cs k) ≡ n
    → HasFrontStepped units (flat_map encode_utf16 cs) n v → HasCharsStepped units cs k v
as_chars units cs k n v e h =
    subst (λ w. HasValueAlong units w v) (ap (λ (z : ℕ). take z (flat_map encode_utf16 cs)) (sym e) ∙ first_units cs k) h

-- The first unit of a character is no trail surrogate.
no_trail : (c u : ℕ) (more w : List ℕ) → scalar c ≡ true → encode_utf16 c ++ more ≡ u ∷ w → IsInRange 0xDC00 0xDFFF u → ⊥
no_trail c u more w s e trail = by (within_or_above 0x1_0000 c) (scalar_cases c s)
  where
    by : (0x1_0000 ≤ c) ⊎ (c < 0x1_0000) → (c < 55296) ⊎ ((57344 ≤ c) × (c < 1114112)) → ⊥
    by (inl big) (inl low) = omega (arith, big, low)
    by (inl big) (inr high) =
        let first : 0xD800 + (c - 0x1_0000) / 0x400 ≡ u = let both = rw (two_units c big) at e in cc in
        omega (arith, first, trail.0, high.1, big)
    by (inr small) range =
        let first : c ≡ u = let both = rw (one_unit c small) at e in cc in
        outside first range
      where
        outside : c ≡ u → (c < 55296) ⊎ ((57344 ≤ c) × (c < 1114112)) → ⊥
        outside first (inl low) = omega (arith, first, trail.0, low)
        outside first (inr high) = omega (arith, first, trail.1, high.0)

-- So whole characters do not end before one.
no_trail_after : (cs : List ℕ) (k u : ℕ) (w : List ℕ) → scalars cs ≡ true → flat_map encode_utf16 (drop k cs) ≡ u ∷ w
    → IsInRange 0xDC00 0xDFFF u → ⊥
no_trail_after [] zero u w s e trail = cc
no_trail_after [] (suc k) u w s e trail = cc
no_trail_after (c ∷ cs) zero u w s e trail = no_trail c u (flat_map encode_utf16 cs) w (and_parts (scalar c) (scalars cs) s).0 e trail
no_trail_after (c ∷ cs) (suc k) u w s e trail = no_trail_after cs k u w (and_parts (scalar c) (scalars cs) s).1 e trail

-- ---- the longest match among some first characters

-- The value of the first k characters, if it was looked up: if they have fewer than i units.
abbrev pub HasBefore : List ℕ → List ℕ → ℕ → ℕ → Option ℤ → Type 0
HasBefore units cs i k None = length (front_units cs k) < i → HasCharsStepped units cs k None
HasBefore units cs i k (Some v) = HasCharsStepped units cs k (Some v)

abbrev pub LongestBefore : List ℕ → List ℕ → ℕ → Option (ℕ × ℤ) → Type 0
LongestBefore units cs i found = LongestWithin (HasBefore units cs i) (length cs) found

either : (P : Type 0) (i n : ℕ) → (i ≤ n → P) → (n < i → P) → P
either P i n more fewer = by (within_or_above i n)
  where
    by : (i ≤ n) ⊎ (n < i) → P
    by (inl h) = more h
    by (inr h) = fewer h

-- No characters with i units or more, but fewer than j, have a value.
later : (units cs : List ℕ) (i j : ℕ) (found : Option (ℕ × ℤ))
    → ((k : ℕ) → i ≤ length (front_units cs k) → length (front_units cs k) < j → HasCharsStepped units cs k None)
    → LongestBefore units cs i found → LongestBefore units cs j found
later units cs i j found none = longest_as (HasBefore units cs i) (HasBefore units cs j) (length cs) found step
  where
    step : (k : ℕ) (v : Option ℤ) → HasBefore units cs i k v → HasBefore units cs j k v
    step k None h = λ below.
        either (HasCharsStepped units cs k None) i (length (front_units cs k)) (λ more. none k more below) h
    step k (Some v) h = h

-- The value of the first j characters is looked up, which are i units.
longer_at : (units cs : List ℕ) (i j : ℕ) (v : Option ℤ) (found : Option (ℕ × ℤ)) → j ≤ length cs → length (front_units cs j) ≡ i
    → HasFrontStepped units (flat_map encode_utf16 cs) i v → LongestBefore units cs i found
    → LongestBefore units cs (i + 1) (longer j v found)
longer_at units cs i j None found within e has h =
    later units cs i (i + 1) found (λ k more below. as_chars units cs k i None (omega (arith, more, below)) has) h
longer_at units cs i j (Some v) found within e has h = (within, as_chars units cs j i (Some v) e has, none)
  where
    none : (k : ℕ) → j < k → k ≤ length cs → HasBefore units cs (i + 1) k None
    none k above at_most below =
        let more = units_more cs j k above at_most in
        absurd (omega (arith, below, e, ap length more.2, length-append (front_units cs j) (more.0 ∷ more.1)))

-- ---- from node to node

-- The match found is the longest among the first characters of fewer than i units.
abbrev pub IsFound : List ℕ → List ℕ → ℕ → Option (ℕ × ℤ) → Type 0
IsFound units text i found =
    (chosen : Option (ℕ × ℤ)) × LongestBefore units (chars text) i chosen × (found ≡ in_bytes (chars text) chosen)

pub none_found : (units text : List ℕ) → IsFound units text 0 None
none_found units text = (None, λ k _ below. absurd (omega (arith, below)), refl)

-- The bytes of the characters that were read and of the others.
pub bytes_of : (text rest front : List ℕ) → IsUtf8 text → IsUtf8 rest → chars text ≡ front ++ chars rest
    → length text ≡ length (encode_utf8_all front) + length rest
bytes_of text rest front u v e =
    ap length (sym (encodes-chars text u) ∙ ap encodes e ∙ encodes-append front (chars rest))
    ∙ length-append (encodes front) (encodes (chars rest))
    ∙ ap (λ (z : List ℕ). length (encodes front) + length z) (encodes-chars rest v)

-- The units of the characters that were read, if these are whole.
units_before : (rest front w : List ℕ) (i : ℕ) → w ≡ flat_map encode_utf16 (front ++ chars rest) → i ≤ length w
    → text_units rest ≡ drop i w → length (flat_map encode_utf16 front) ≡ i
units_before rest front w i e within left =
    omega (
      arith,
      within,
      ap length left,
      length-drop i w,
      ap length (e ∙ flat_map-append encode_utf16 front (chars rest)),
      length-append (flat_map encode_utf16 front) (text_units rest),
    )

-- The node's value is looked up.
pub looked_up : (units text : List ℕ) (t : TextUnits) (node : ℕ) (v : Option ℤ) (before found : Option (ℕ × ℤ)) → IsUtf8 text
    → AreTextUnits t → value_at units (Node node) ≡ v
    → found ≡ longer_after t.second (length text - length t.rest.now) v before → (at : HasRead units text t node)
    → IsFound units text at.passed before → IsFound units text (at.passed + 1) found
looked_up units text t node v before found utf8 sound value is at so_far = by t.second refl
  where
    cs : List ℕ
    cs = chars text

    j : ℕ
    j = length at.front

    first : take j cs ≡ at.front
    first = ap (λ (z : List ℕ). take j z) at.last ∙ take-append_seam at.front (chars t.rest.now)

    bytes : length text - length t.rest.now ≡ length (encode_utf8_all (take j cs))
    bytes = rw first (omega (arith, bytes_of text t.rest.now at.front utf8 sound.utf8 at.last))

    left : (second : Option ℕ) → second ≡ t.second → after_second second (text_units t.rest.now) ≡ drop at.passed (text_units text)
    left second e = ap (λ z. after_second z (text_units t.rest.now)) e ∙ at.left

    by : (second : Option ℕ) → second ≡ t.second → IsFound units text (at.passed + 1) found
    by None e =
        let count : length (front_units cs j) ≡ at.passed =
        ap (λ (z : List ℕ). length (flat_map encode_utf16 z)) first
        ∙ units_before t.rest.now at.front (text_units text) at.passed (ap (flat_map encode_utf16) at.last) at.within (left None e) in
        let within : j ≤ length cs = omega (arith, ap length at.last, length-append at.front (chars t.rest.now)) in (
          longer j v so_far.0,
          longer_at units cs at.passed j v so_far.0 within count (Node node, at.steps, value) so_far.1,
          (rw (← e) at is) ∙ ap (longer (length text - length t.rest.now) v) so_far.2
              ∙ longer_bytes cs j (length text - length t.rest.now) v so_far.0 bytes,
        )
    by (Some u) e = (
      so_far.0,
      later units cs at.passed (at.passed + 1) so_far.0 none so_far.1,
      (rw (← e) at is) ∙ so_far.2,
    )
      where
        trail : IsInRange 0xDC00 0xDFFF u
        trail = rw (← e) at sound.second

        none : (k : ℕ) → at.passed ≤ length (front_units cs k) → length (front_units cs k) < at.passed + 1 → HasCharsStepped units cs k None
        none k more below =
            let here : at.passed ≡ length (front_units cs k) = omega (arith, more, below) in
            absurd
            (no_trail_after cs k u (text_units t.rest.now) (scalars-chars text utf8)
            (sym (other_units cs k) ∙ ap (λ (z : ℕ). drop z (text_units text)) (sym here) ∙ sym (left (Some u) e)) trail)

-- There is no lead to read a value by.
pub not_looked_up : (units text : List ℕ) (t : TextUnits) (node : ℕ) (found : Option (ℕ × ℤ)) → IsUtf8 text → AreTextUnits t
    → value_at units (Node node) ≡ None → (at : HasRead units text t node) → IsFound units text at.passed found
    → IsFound units text (at.passed + 1) found
not_looked_up units text t node found utf8 sound value =
    looked_up units text t node None found found utf8 sound value (same t.second)
  where
    same : (second : Option ℕ) → found ≡ longer_after second (length text - length t.rest.now) None found
    same None = refl
    same (Some u) = refl

-- The text leads on to the next node.
pub found_on : (units text : List ℕ) (t : TextUnits) (node n q : ℕ) (found : Option (ℕ × ℤ)) (at : HasRead units text t node)
    → LeadsToNode units (Node node) (drop at.passed (text_units text)) q n → IsFound units text (at.passed + 1) found
    → IsFound units text (at.passed + n) found
found_on units text t node n q found at on so_far = (
  so_far.0,
  later units (chars text) (at.passed + 1) (at.passed + n) so_far.0
      (λ k more below.
      as_chars units (chars text) k (length (front_units (chars text) k)) None refl
      (none_between units (text_units text) at.passed node n q at.steps on (length (front_units (chars text) k))
      (omega (arith, more)) below))
      so_far.1,
  so_far.2,
)

-- The text does not lead on.
pub ends_in_text : (units text : List ℕ) (i : ℕ) (found : Option (ℕ × ℤ)) → NoneAbove units (text_units text) i
    → IsFound units text (i + 1) found → IsLongestSteppedInText units text found
ends_in_text units text i found none so_far =
    (so_far.0, longest_as (HasBefore units cs (i + 1)) (HasCharsStepped units cs) (length cs) so_far.0 step so_far.1, so_far.2)
  where
    cs : List ℕ
    cs = chars text

    step : (k : ℕ) (v : Option ℤ) → HasBefore units cs (i + 1) k v → HasCharsStepped units cs k v
    step k None h =
        either (HasCharsStepped units cs k None) (i + 1) (length (front_units cs k))
        (λ more. as_chars units cs k (length (front_units cs k)) None refl
        (none (length (front_units cs k)) (omega (arith, more)) (units_fit cs k))) h
    step k (Some v) h = h
