-- Keys in UTF-8, one after another, and their units in UTF-16.
use Rattle.std.proofs.Common.{◌≡◌, ◌∙◌, refl, ap, sym, inl, inr, ℕ, ℤ, pos, ◌+◌, ◌*◌, ◌-◌, ◌/◌, ◌%◌, ◌<◌, ◌≤◌, Bool, true, false, cond, nat_lt, List, [], ◌∷◌, length, take, drop, get_or, length-append, length-drop, arith}
use Rattle.std.specs.Prelude.{All, sum}
use Rattle.std.specs.Char.{len_utf8}
use Rattle.std.specs.Char.Escape.{encode_utf16}
use Rattle.std.specs.List.{flat_map}
use Rattle.std.specs.Str.{IsUtf8, chars}
use Rattle.std.proofs.Math.Utf8.{encode, encodes}
use Rattle.std.proofs.lemmas.Bool.Decides.{nat_tests}
use Rattle.std.proofs.lemmas.List.{drop_more, length-take-le}
use Rattle.std.proofs.lemmas.List.Elements.{All-head, All-tail}
use Rattle.std.proofs.lemmas.List.Sums.{sum_by-cons}
use Rattle.std.proofs.lemmas.Str.{encodes-chars, len_utf8_bounds, length-encode}
use Rattle.icu_char16trie.specs.Matches.{text_units}
use Rattle.icu_collections_c.specs.Status.{error_number}
use Rattle.icu_collections_c.specs.UnitBuilding.{AnswersUnits}
use Rattle.icu_collections_c.specs.UnitTexts.{key_lengths, key_units, keys_of}
use Rattle.icu_collections_c.specs.declared.error.Error.{Error}
use Rattle.icu_collections_c.specs.declared.error.Error.TheVariants.{NoMemory, InvalidTrie, InvalidUtf8, NoKey, InvalidFormat, WideValue, TooLarge, InvalidEntries, LongKey, SameKey, InvalidSet}

-- The next key of those that are left.
pub keys_next : (rest ns : List ℕ) (i : ℕ) → i < length ns
    → keys_of rest (drop i ns) ≡ take (get_or ns i 0) rest ∷ keys_of (drop (get_or ns i 0) rest) (drop (i + 1) ns)
keys_next rest ns i l = ap (keys_of rest) (drop_more ns i 0 l)

-- ---- how many units there are

-- A character has no more units in UTF-16 than bytes in UTF-8.
few_units : (c : ℕ) → length (encode_utf16 c) ≤ len_utf8 c
few_units c = by (nat_lt c 0x1_0000) refl
  where
    by : (b : Bool) → nat_lt c 0x1_0000 ≡ b
        → length (cond b (c ∷ []) ((0xD800 + (c - 0x1_0000) / 0x400) ∷ (0xDC00 + (c - 0x1_0000) % 0x400) ∷ [])) ≤ len_utf8 c
    by true h = (len_utf8_bounds c).0
    by false h =
        let two : nat_lt c 0x80 ≡ false = grind (arith, nat_tests) in
        let three : nat_lt c 0x800 ≡ false = grind (arith, nat_tests) in
        rw (two, three, h) (omega arith)

few_units_all : (cs : List ℕ) → length (flat_map encode_utf16 cs) ≤ length (encodes cs)
few_units_all [] = omega arith
few_units_all (c ∷ cs) =
    omega (
      arith,
      length-append (encode_utf16 c) (flat_map encode_utf16 cs),
      length-append (encode c) (encodes cs),
      few_units c,
      length-encode c,
      few_units_all cs,
    )

few_units_of_text : (text : List ℕ) → IsUtf8 text → length (text_units text) ≤ length text
few_units_of_text text u = omega (arith, few_units_all (chars text), ap length (encodes-chars text u))

-- The keys have no more units than bytes.
pub few_units_of_keys : (bytes ns : List ℕ) → sum ns ≤ length bytes → All IsUtf8 (keys_of bytes ns)
    → sum (key_lengths (keys_of bytes ns)) ≤ sum ns
few_units_of_keys bytes [] room texts = omega arith
few_units_of_keys bytes (n ∷ ns) room texts =
    let all = sum_by-cons (λ k. k) n ns in
    let units = sum_by-cons (λ k. k) (length (text_units (take n bytes))) (key_lengths (keys_of (drop n bytes) ns)) in
    let first = few_units_of_text (take n bytes) (All-head IsUtf8 (take n bytes) (keys_of (drop n bytes) ns) texts) in
    let long = length-take-le n bytes (omega (arith, all, room)) in
    let others = few_units_of_keys (drop n bytes) ns (omega (arith, all, room, length-drop n bytes))
    (All-tail IsUtf8 (take n bytes) (keys_of (drop n bytes) ns) texts) in
    omega (arith, all, units, first, long, others)

-- There is a number of units for each key.
pub length-key_lengths : (bytes ns : List ℕ) → length (key_lengths (keys_of bytes ns)) ≡ length ns
length-key_lengths bytes [] = refl
length-key_lengths bytes (n ∷ ns) = omega (arith, length-key_lengths (drop n bytes) ns)

-- The number of an error is no count.
pub no_count : (why : Error) (n : ℕ) → error_number why ≡ pos n → ⊥
no_count NoMemory n e = cc
no_count InvalidTrie n e = cc
no_count InvalidUtf8 n e = cc
no_count NoKey n e = cc
no_count InvalidFormat n e = cc
no_count WideValue n e = cc
no_count TooLarge n e = cc
no_count InvalidEntries n e = cc
no_count LongKey n e = cc
no_count SameKey n e = cc
no_count InvalidSet n e = cc

pos_same : (a b : ℕ) → ◌≡◌ {A = ℤ} (pos a) (pos b) → a ≡ b
pos_same a b e = cc

-- The units that are built take no more than four bytes for each byte of a key, and 32 for each
-- entry.
pub few_bytes : (bytes ns : List ℕ) (values : List ℤ) (old new : List ℕ) (r : ℤ) (n : ℕ) → sum ns ≤ length bytes
    → All IsUtf8 (keys_of bytes ns)
    → AnswersUnits (key_units (keys_of bytes ns)) (key_lengths (keys_of bytes ns)) values old new r → r ≡ pos n
    → n ≤ 4 * sum ns + 32 * length ns
few_bytes bytes ns values old new r n room texts (inl built) e =
    let same = pos_same built.0 n (sym built.1 ∙ e) in
    omega (arith, same, built.2.size, few_units_of_keys bytes ns room texts, length-key_lengths bytes ns)
few_bytes bytes ns values old new r n room texts (inr why) e = absurd (no_count why.0 n (sym why.1 ∙ e))
