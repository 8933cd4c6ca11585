-- A set that is written to JSON is read back unchanged.
use Rattle.std.proofs.Common.{◌≡◌, ℕ, ◌+◌, ◌-◌, ◌/◌, ◌%◌, ◌<◌, ◌≤◌, List, [], ◌∷◌, ◌++◌, map, length, get_or, drop, refl, sym, ap, ◌∙◌, arith, suc, true, inl, inr, Ok, Err}
use Rattle.std.specs.Char.{digit_value}
use Rattle.std.specs.Str.{encode_utf8_all}
use Rattle.std.proofs.Math.Utf8.{scalar, scalars}
use Rattle.std.proofs.lemmas.Bool.{cases_lt, cases_eq, eq-eqb, ne_eqb, lt-ltb, le-ltb, le-leb, lt-leb, and_from, and_parts}
use Rattle.std.proofs.lemmas.Bool.Decides.{nat_tests}
use Rattle.std.proofs.lemmas.List.{append_assoc, append-nil, map-append, drop_all}
use Rattle.std.proofs.lemmas.Str.{chars-encodes}
use Rattle.serde_json.specs.Data.{Data, null, boolean, number, string, array, object, Items}
use Rattle.serde_json.specs.View.{items_of, view}
use Rattle.serde_json.specs.declared.value.Value.{Value}
use Rattle.icu_zerovec.specs.CodePoints.{code_point_limit}
use Rattle.icu_invlist.specs.InversionList.{IsValid}
use Rattle.icu_invlist.specs.Inside.Places.{Run}
use Rattle.icu_invlist.specs.SetJson.{IsHex, IsPoint, IsRange, SayEnds, IsSaid, upper_hex, upper_hex4, spelling_of, range_text, texts_of, written_of, ends_of}
use Rattle.icu_invlist.specs.Inside.GivenEnds.{GivesEnds}
use Rattle.icu_invlist.specs.declared.codepointinvlist.error.SetJsonError.{SetJsonError}
use Rattle.icu_invlist.specs.declared.codepointinvlist.error.SetJsonError.TheVariants as errors
use Rattle.icu_invlist.proofs.JsonLemmas.{ends_found, ends_only, same_ok}
use Rattle.icu_invlist.proofs.MemberLemmas.{drop_pair}
use Rattle.icu_invlist.proofs.ValidLists.{run_from_valid}

-- ---- code points
hex_value : (d : ℕ) → d < 16 → digit_value (upper_hex d) ≡ d
hex_value d h = elim (cases_lt d 10) [
  | inl k ↦ rw (lt-ltb d 10 k) (grind (arith, nat_tests))
  | inr k ↦ rw (le-ltb d 10 k) (grind (arith, nat_tests))
]

hex_scalar : (d : ℕ) → d < 16 → scalar (upper_hex d) ≡ true
hex_scalar d h = elim (cases_lt d 10) [
  | inl k ↦ rw (lt-ltb d 10 k) (grind (arith, nat_tests))
  | inr k ↦ rw (le-ltb d 10 k) (grind (arith, nat_tests))
]

hex_spelled : (p : ℕ) → p < 0x10000 → IsHex (upper_hex4 p) p
hex_spelled p h =
    let a = hex_value (p / 4096 % 16) (omega arith) in
    let b = hex_value (p / 256 % 16) (omega arith) in
    let c = hex_value (p / 16 % 16) (omega arith) in
    let d = hex_value (p % 16) (omega arith) in
    record {
      a = _;
      b = _;
      c = _;
      d = _;
      is = refl;
      digits = (omega arith, omega arith, omega arith, omega arith);
      value =
          rw (a, b, c, d) (omega arith);
    }

point_spelled : (p : ℕ) → IsPoint (spelling_of p) p
point_spelled p = elim (cases_lt p 0xD800) [
  | inl h ↦ inl (rw (lt-leb 0xD800 p h) refl)
  | inr h ↦ elim (cases_lt p 0xE000) [
    | inl k ↦ inr (upper_hex4 p, rw (le-leb 0xD800 p h, lt-ltb p 0xE000 k) refl, hex_spelled p (omega arith))
    | inr k ↦ inl (rw (le-leb 0xD800 p h, le-ltb p 0xE000 k) refl)
  ]
]

point_scalars : (p : ℕ) → p < code_point_limit → scalars (spelling_of p) ≡ true
point_scalars p l = elim (cases_lt p 0xD800) [
  | inl h ↦ rw (lt-leb 0xD800 p h) (and_from (scalar p) true (rw (lt-ltb p 0xD800 h) refl) refl)
  | inr h ↦ elim (cases_lt p 0xE000) [
    | inl k ↦ rw (le-leb 0xD800 p h, lt-ltb p 0xE000 k)
        (rw (
          hex_scalar (p / 4096 % 16) (omega arith),
          hex_scalar (p / 256 % 16) (omega arith),
          hex_scalar (p / 16 % 16) (omega arith),
          hex_scalar (p % 16) (omega arith),
        ) refl)
    | inr k ↦ rw (le-leb 0xD800 p h, le-ltb p 0xE000 k)
        (and_from (scalar p) true (rw (le-ltb p 0xD800 h, le-leb 0xE000 p k, lt-ltb p 0x110000 l) refl) refl)
  ]
]

-- ---- ranges
range_spelled : (a b : ℕ) → IsRange (range_text a b) a b
range_spelled a b = elim (cases_eq a b) [
  | inl e ↦ rw (eq-eqb a b e) (inl (point_spelled a, sym e))
  | inr e ↦ rw (ne_eqb a b e) (inr (spelling_of a, 0x2D ∷ [], spelling_of b, refl, point_spelled a, inl refl, point_spelled b))
]

scalars-append : (xs ys : List ℕ) → scalars xs ≡ true → scalars ys ≡ true → scalars (xs ++ ys) ≡ true
scalars-append [] ys h k = k
scalars-append (x ∷ xs) ys h k = let p = and_parts (scalar x) (scalars xs) h in
    and_from (scalar x) (scalars (xs ++ ys)) p.0 (scalars-append xs ys p.1 k)

range_scalars : (a b : ℕ) → a < code_point_limit → b < code_point_limit → scalars (range_text a b) ≡ true
range_scalars a b h k = elim (cases_eq a b) [
  | inl e ↦ rw (eq-eqb a b e) (point_scalars a h)
  | inr e ↦ rw (ne_eqb a b e) (scalars-append (spelling_of a) (0x2D ∷ spelling_of b) (point_scalars a h)
      (and_from true (scalars (spelling_of b)) refl (point_scalars b k)))
]

-- ---- sets
-- A string of characters.
abbrev pub text_data : List ℕ → Data
text_data t = string (encode_utf8_all t)

said_from_run : (lo : ℕ) (ends : List ℕ) → Run lo (suc code_point_limit) ends → length ends % 2 ≡ 0
    → SayEnds (items_of (map text_data (texts_of ends))) ends
said_from_run lo [] r e = refl
said_from_run lo (s ∷ []) r e = absurd (omega arith)
said_from_run lo (s ∷ t ∷ ends) r e =
    let z = chars-encodes (range_text s (t - 1)) (range_scalars s (t - 1) (omega (arith, r.2.0, r.2.1)) (omega (arith, r.2.0, r.2.1))) in (
      s,
      t - 1,
      ends,
      rw z (range_spelled s (t - 1)),
      ap (λ (n : ℕ). s ∷ n ∷ ends) (omega (arith, r.2.0)),
      said_from_run (suc t) ends r.2.2 (omega arith),
    )

pub written_back : (ends : List ℕ) → IsValid ends → ends_of (written_of ends) ≡ Ok ends
written_back ends v = ends_only _ ends (said_from_run 0 ends (run_from_valid ends v) v.even)

pub texts_more : (xs : List ℕ) (i : ℕ) → i + 1 < length xs
    → texts_of (drop i xs) ≡ range_text (get_or xs i 0) (get_or xs (i + 1) 0 - 1) ∷ texts_of (drop (i + 2) xs)
texts_more xs i h = rw (drop_pair xs i h) refl

pub texts_step : (xs : List ℕ) (vs ws : List Value) (v : Value) (i s e : ℕ) → i + 1 < length xs → s ≡ get_or xs i 0
    → e ≡ get_or xs (i + 1) 0 → ws ≡ vs ++ v ∷ []
    → view v ≡ text_data (range_text s (e - 1)) → map view vs ++ map text_data (texts_of (drop i xs)) ≡ map text_data (texts_of xs)
    → map view ws ++ map text_data (texts_of (drop (i + 2) xs)) ≡ map text_data (texts_of xs)
texts_step xs vs ws v i s e h a b w x so_far =
    let rest = map text_data (texts_of (drop (i + 2) xs)) in
    let t : map text_data (texts_of (drop i xs)) ≡ text_data (range_text s (e - 1)) ∷ rest = rw (texts_more xs i h, a, b) refl in
    let m : map view ws ≡ map view vs ++ text_data (range_text s (e - 1)) ∷ [] = rw (w, map-append, x) refl in
    ap (λ ds. ds ++ rest) m ∙ (append_assoc (map view vs) (text_data (range_text s (e - 1)) ∷ []) rest
    ∙ (ap (λ ds. map view vs ++ ds) (sym t) ∙ so_far))

pub texts_all : (xs : List ℕ) (vs : List Value) (i : ℕ) → length xs ≤ i
    → map view vs ++ map text_data (texts_of (drop i xs)) ≡ map text_data (texts_of xs) → map view vs ≡ map text_data (texts_of xs)
texts_all xs vs i h so_far = sym (append-nil (map view vs)) ∙ rw (drop_all i xs h) at so_far

-- ---- what is read
pub said : (d : Data) (ends : List ℕ) → ends_of d ≡ Ok ends → IsSaid d ends
said null ends h = absurd cc
said (boolean b) ends h = absurd cc
said (number n) ends h = absurd cc
said (string t) ends h = absurd cc
said (array ds) ends h = (ds, refl, ends_found ds ends h)
said (object ms) ends h = absurd cc

pub said_alone : (d : Data) (items : Items) (xs ends : List ℕ) → ends_of d ≡ Ok xs → d ≡ array items → SayEnds items ends → xs ≡ ends
said_alone d items xs ends h e s = same_ok xs ends (sym h ∙ (ap ends_of e ∙ ends_only items ends s))

pub refused_alone : (d : Data) (items : Items) (ends : List ℕ) (e : SetJsonError) → GivesEnds (Err e) (ends_of d) → d ≡ array items
    → SayEnds items ends → e ≡ errors.Memory
refused_alone d items ends errors.Memory g e s = refl
refused_alone d items ends errors.NotAnArray g e s = absurd (let k : ends_of d ≡ Ok ends = ap ends_of e ∙ ends_only items ends s in cc)
refused_alone d items ends (errors.NotAString i) g e s = absurd (let k : ends_of d ≡ Ok ends = ap ends_of e ∙ ends_only items ends s in cc)
refused_alone d items ends (errors.NotARange i) g e s = absurd (let k : ends_of d ≡ Ok ends = ap ends_of e ∙ ends_only items ends s in cc)
refused_alone d items ends errors.InvalidSet g e s = absurd g
