-- The units of the characters of a text.
use Rattle.std.proofs.Common.{◌≡◌, ℕ, ◌+◌, ◌-◌, ◌/◌, ◌%◌, ◌<◌, ◌≤◌, Bool, true, false, cond, nat_lt, List, [], ◌∷◌, ◌++◌, length, take, drop, sym, ap, refl, ◌∙◌, arith, length-append}
use Rattle.std.proofs.lemmas.Bool.Decides.{nat_tests}
use Rattle.std.proofs.lemmas.Grind.{flat_map-append}
use Rattle.std.proofs.lemmas.List.{take-append-drop}
use Rattle.std.specs.Char.Escape.{encode_utf16}
use Rattle.std.specs.List.{flat_map}
use Rattle.icu_char16trie.proofs.CallerLemmas.{units_next}

one_or_two : (c n : ℕ) → (c < 0x1_0000 → n ≡ 1) → (0x1_0000 ≤ c → n ≡ 2) → length (encode_utf16 c) ≡ n
one_or_two c n one two = by (nat_lt c 0x1_0000) refl
  where
    by : (b : Bool) → nat_lt c 0x1_0000 ≡ b
        → length (cond b (c ∷ []) ((0xD800 + (c - 0x1_0000) / 0x400) ∷ (0xDC00 + (c - 0x1_0000) % 0x400) ∷ [])) ≡ n
    by true h = let small : c < 0x1_0000 = grind (arith, nat_tests) in sym (one small)
    by false h = let big : 0x1_0000 ≤ c = grind (arith, nat_tests) in sym (two big)

pub at_most_two : (c n : ℕ) → (c < 0x1_0000 → n ≡ 1) → (0x1_0000 ≤ c → n ≡ 2) → n ≤ 2
at_most_two c n one two = by (nat_lt c 0x1_0000) refl
  where
    by : (b : Bool) → nat_lt c 0x1_0000 ≡ b → n ≤ 2
    by true h = let small : c < 0x1_0000 = grind (arith, nat_tests) in omega (arith, one small)
    by false h = let big : 0x1_0000 ≤ c = grind (arith, nat_tests) in omega (arith, two big)

pub count_next : (cs : List ℕ) (c n : ℕ) → (c < 0x1_0000 → n ≡ 1) → (0x1_0000 ≤ c → n ≡ 2)
    → length (flat_map encode_utf16 (cs ++ c ∷ [])) ≡ length (flat_map encode_utf16 cs) + n
count_next cs c n one two =
    ap length (units_next cs c) ∙ length-append (flat_map encode_utf16 cs) (encode_utf16 c)
    ∙ ap (λ (k : ℕ). length (flat_map encode_utf16 cs) + k) (one_or_two c n one two)

-- Fewer characters have no more units.
pub count_within : (cs : List ℕ) (k : ℕ) → length (flat_map encode_utf16 (take k cs)) ≤ length (flat_map encode_utf16 cs)
count_within cs k =
    omega (
      arith,
      ap (λ (z : List ℕ). length (flat_map encode_utf16 z)) (take-append-drop k cs),
      ap length (flat_map-append encode_utf16 (take k cs) (drop k cs)),
      length-append (flat_map encode_utf16 (take k cs)) (flat_map encode_utf16 (drop k cs)),
    )
