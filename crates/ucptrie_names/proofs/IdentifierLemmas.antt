-- The identifiers of values, and one more.
use Rattle.std.proofs.Common.{◌≡◌, ◌∙◌, inl, inr, ap, ℕ, zero, suc, ◌+◌, ◌-◌, ◌^◌, ◌<◌, ◌≤◌, Bool, true, false, nat_le, List, [], ◌∷◌, ◌++◌, Result, Ok, Err, codes, drop, get_or, length, refl, subst, string_bytes, sym, take, arith}
use Rattle.std.specs.Prelude.{◌&&◌, OnOk, is_ok, if◌then◌else◌}
use Rattle.std.specs.List.{list_all, list_any, FoldsTo, IsDistinct}
use Rattle.std.specs.Str.{bytes_eq}
use Rattle.std.specs.Cmp.Lexicographic.{on_texts_equal}
use Rattle.std.proofs.lemmas.Bool.{and_from, and_left, and_parts, and_right, or_cases, or_parts}
use Rattle.std.proofs.lemmas.Bool.Decides.{nat_tests}
use Rattle.std.proofs.lemmas.List.{drop_all, drop_more, take_more}
use Rattle.std.proofs.lemmas.List.Elements.{All-push}
use Rattle.std.proofs.lemmas.Map.Keys.{IsDistinct-push}
use Rattle.std.proofs.lemmas.Slice.Eq.{bytes_eq-Decides}
use Rattle.ucptrie_names.proofs.WordLemmas.{with_number_longer}
use Rattle.ucd_files.specs.declared.names.Name.{Name}
use Rattle.ucptrie_names.specs.declared.value_names.EnumValue.{EnumValue}
use Rattle.ucptrie_names.specs.ValueIdentifiers.{is_longest, is_reserved, is_taken, listed, numbered, with_number, AreIdentifiers, AreValuesOf, IsFirstFree, IsWithValue}

-- no value
identifiers-none : (is_rust : Bool) → AreIdentifiers is_rust []
unfolding IsDistinct
identifiers-none is_rust = record { free = λ k d below. absurd (omega (arith, below)); apart = tt }

-- one more value, whose identifier is not taken
identifiers-push : (is_rust : Bool) (values : List EnumValue) (v : EnumValue)
    → is_taken values is_rust (string_bytes v.identifier) ≡ false → AreIdentifiers is_rust values
    → AreIdentifiers is_rust (values ++ v ∷ [])
identifiers-push is_rust values v untaken held =
    let both = or_parts (is_reserved is_rust (string_bytes v.identifier))
    (list_any (λ (w : EnumValue). bytes_eq (string_bytes v.identifier) (string_bytes w.identifier)) values) untaken in
    record {
      free = All-push (λ (w : EnumValue). is_reserved is_rust (string_bytes w.identifier) ≡ false) values v held.free both.0;
      apart = IsDistinct-push (on_texts_equal (λ (w : EnumValue). string_bytes w.identifier)) values v held.apart both.1;
    }

identifiers-after : (is_rust : Bool) (names : List Name) (before values : List EnumValue) → AreIdentifiers is_rust before
    → FoldsTo (IsWithValue is_rust) before names values → AreIdentifiers is_rust values
identifiers-after is_rust [] before values held is = subst (AreIdentifiers is_rust) is held
identifiers-after is_rust (name ∷ names) before values held (next, one, more) =
    identifiers-after is_rust names next values
    (subst (AreIdentifiers is_rust) (sym one.pushed) (identifiers-push is_rust before one.value one.identifier.free held)) more

-- values of names have identifiers of their own
pub identifiers-of : (is_rust : Bool) (names : List Name) (values : List EnumValue) → AreValuesOf is_rust names values
    → AreIdentifiers is_rust values
identifiers-of is_rust names values is = identifiers-after is_rust names [] values (identifiers-none is_rust) is

-- ---- The names that an enum has

module _ (highest i : ℕ) (names : List Name) (d : Name) (below : i < length names) where
  -- whether the next name is one, and those after it
  listed_next : (b : Bool)
      → (nat_le (get_or names i d).number highest && is_longest (take i names) (get_or names i d) (drop i names)) ≡ b
      → listed highest (take i names) (drop i names)
      ≡ (let rest = listed highest (take (i + 1) names) (drop (i + 1) names) in if b then get_or names i d ∷ rest else rest)
  listed_next b test =
      let from = drop_more names i d below in
      let tested : (nat_le (get_or names i d).number highest
      && is_longest (take i names) (get_or names i d) (get_or names i d ∷ drop (i + 1) names)) ≡ b = rw from at test in
      rw (from, tested, take_more names i d below) refl

  module _ (is_rust : Bool) (values all : List EnumValue) where
    -- the next name is one, and its value is there
    pub values-more : (new : List EnumValue) → (get_or names i d).number ≤ highest
        → is_longest (take i names) (get_or names i d) (drop i names) ≡ true → IsWithValue is_rust values (get_or names i d) new
        → FoldsTo (IsWithValue is_rust) new (listed highest (take (i + 1) names) (drop (i + 1) names)) all
        → FoldsTo (IsWithValue is_rust) values (listed highest (take i names) (drop i names)) all
    values-more new small longest one more =
        let within : nat_le (get_or names i d).number highest ≡ true = grind (arith, nat_tests, small) in
        rw (listed_next true (and_from _ _ within longest)) (new, one, more)

    -- the next name is not the longest one
    pub values-shorter : is_longest (take i names) (get_or names i d) (drop i names) ≡ false
        → FoldsTo (IsWithValue is_rust) values (listed highest (take (i + 1) names) (drop (i + 1) names)) all
        → FoldsTo (IsWithValue is_rust) values (listed highest (take i names) (drop i names)) all
    values-shorter shorter more = rw (listed_next false (and_right _ _ shorter)) more

    -- the number of the next name is too high
    pub values-above : highest < (get_or names i d).number
        → FoldsTo (IsWithValue is_rust) values (listed highest (take (i + 1) names) (drop (i + 1) names)) all
        → FoldsTo (IsWithValue is_rust) values (listed highest (take i names) (drop i names)) all
    values-above high more =
        let above : nat_le (get_or names i d).number highest ≡ false = grind (arith, nat_tests, high) in
        rw (listed_next false (and_left _ _ above)) more

-- no name is left
pub values-all : (is_rust : Bool) (highest i : ℕ) (names : List Name) (values : List EnumValue) → length names ≤ i
    → FoldsTo (IsWithValue is_rust) values (listed highest (take i names) (drop i names)) values
values-all is_rust highest i names values over = rw (drop_all i names over) refl

-- ---- The first that is not taken

-- how many bytes no taken identifier has more than: those of the longest reserved word and of the values' identifiers
pub bytes_taken : List EnumValue → ℕ
bytes_taken [] = 10
bytes_taken (v ∷ values) = length (string_bytes v.identifier) + bytes_taken values

bytes_reserved : (values : List EnumValue) → 10 ≤ bytes_taken values
unfolding bytes_taken
bytes_reserved [] = omega arith
bytes_reserved (v ∷ values) = omega (arith, bytes_reserved values)

bytes_of_one : (values : List EnumValue) (text : List ℕ)
    → list_any (λ (v : EnumValue). bytes_eq text (string_bytes v.identifier)) values ≡ true → length text ≤ bytes_taken values
unfolding bytes_taken
bytes_of_one [] text any = cc
bytes_of_one (v ∷ values) text any =
    elim (or_cases (bytes_eq text (string_bytes v.identifier))
    (list_any (λ (w : EnumValue). bytes_eq text (string_bytes w.identifier)) values) any) [
      | inl same ↦ omega (arith, ap length ((bytes_eq-Decides text (string_bytes v.identifier)).0 same))
      | inr more ↦ omega (arith, bytes_of_one values text more)
    ]

bytes_of_word : (words : List (List ℕ)) (text : List ℕ) → list_any (λ word. bytes_eq word text) words ≡ true
    → list_all (λ word. nat_le (length word) 10) words ≡ true → length text ≤ 10
bytes_of_word [] text any short = cc
bytes_of_word (word ∷ words) text any short =
    let both = and_parts (nat_le (length word) 10) (list_all (λ w. nat_le (length w) 10) words) short in
    elim (or_cases (bytes_eq word text) (list_any (λ w. bytes_eq w text) words) any) [
      | inl same ↦ grind (arith, nat_tests, both.0, ap length ((bytes_eq-Decides word text).0 same))
      | inr more ↦ bytes_of_word words text more both.1
    ]

reserved_short : (is_rust : Bool) (text : List ℕ) → is_reserved is_rust text ≡ true → length text ≤ 10
reserved_short true text is = bytes_of_word (codes "" ∷ codes "Self" ∷ []) text is refl
reserved_short false text is = bytes_of_word (codes "dataLength" ∷ codes "fastLimit" ∷ codes "get" ∷ codes "highStart" ∷ codes "index1"
    ∷ codes "open" ∷ codes "table" ∷ codes "trie" ∷ codes "trieData" ∷ codes "trieIndex" ∷ codes "value" ∷ []) text is refl

taken_short : (is_rust : Bool) (values : List EnumValue) (text : List ℕ) → is_taken values is_rust text ≡ true
    → length text ≤ bytes_taken values
taken_short is_rust values text is =
    elim (or_cases (is_reserved is_rust text) (list_any (λ (v : EnumValue). bytes_eq text (string_bytes v.identifier)) values) is) [
      | inl reserved ↦ omega (arith, reserved_short is_rust text reserved, bytes_reserved values)
      | inr any ↦ bytes_of_one values text any
    ]

-- how far a taken identifier is below that falls by a number
pub taken_falls : (is_rust : Bool) (values : List EnumValue) (n : ℕ) (text new : List ℕ) → n < 2 ^ 64
    → is_taken values is_rust text ≡ true → new ≡ with_number n text
    → bytes_taken values + 1 - length new < bytes_taken values + 1 - length text
taken_falls is_rust values n text new small taken is =
    omega (arith, taken_short is_rust values text taken, with_number_longer n text small, ap length is)

-- an identifier that is taken, and the first free one with a number behind it
pub IsFirstFree-taken : (is_rust : Bool) (values : List EnumValue) (n : ℕ) (own text : List ℕ) → is_taken values is_rust own ≡ true
    → IsFirstFree is_rust values n (with_number n own) text → IsFirstFree is_rust values n own text
IsFirstFree-taken is_rust values n own text taken first = record {
  times = suc first.times;
  is = first.is;
  free = first.free;
  least = λ k below. least k below;
} where
  least : (k : ℕ) → k < suc first.times → is_taken values is_rust (numbered n own k) ≡ true
  least zero below = taken
  least (suc k) below = first.least k (omega (arith, below))

-- an identifier that is not taken
pub IsFirstFree-free : (is_rust : Bool) (values : List EnumValue) (n : ℕ) (text : List ℕ) → is_taken values is_rust text ≡ false
    → IsFirstFree is_rust values n text text
IsFirstFree-free is_rust values n text free =
    record { times = 0; is = refl; free = free; least = λ k below. absurd (omega (arith, below)) }

-- ---- Bytes

-- an ASCII character is appended, if there is memory
pub pushed : {T E : Type 0} (r : Result T E) (c b : ℕ) (piece text new : List ℕ) → c ≡ b → b < 128 → (c < 128 → piece ≡ c ∷ [])
    → new ≡ (if is_ok r then text ++ piece else text) → OnOk r (new ≡ text ++ b ∷ [])
pushed (Ok done) c b piece text new same below one is =
    let small : c < 128 = rw same below in
    is ∙ (ap (λ t. text ++ t) (one small) ∙ ap (λ n. text ++ n ∷ []) same)
pushed (Err fault) c b piece text new same below one is = tt
