-- Characters of one and two bytes: what the words of a kind say of each byte, and texts of such
-- characters.
use Rattle.std.proofs.Common.{◌≡◌, ◌∙◌, sym, ap, subst, refl, ℕ, zero, suc, add-zero, ◌+◌, ◌-◌, ◌*◌, ◌/◌, ◌%◌, ◌^◌, ◌<◌, ◌≤◌, ◌++◌, Bool, true, List, length, take, drop, set, get_or, arith, inl, inr, encode_utf8}
use Rattle.std.specs.Prelude.{◌==◌, ◌&&◌}
use Rattle.std.specs.Int.{bit_at}
use mathlib.Core.Bool.{beq}
use Rattle.std.proofs.lemmas.Bool.{cases_eq, cases_lt, cond-false, cond-true, eq-eqb, eqb-true, leb-false, leb-true, lt-ltb, ne_eqb}
use Rattle.std.proofs.lemmas.Grind.{get_or-set_at}
use Rattle.std.proofs.lemmas.List.{drop-drop, get_or-drop, get_or-set_other, get_or-take, length-drop}
use Rattle.std.proofs.lemmas.Nat.Bits.{bit_at_mask_above, bit_at_mask_below}
use Rattle.std.proofs.lemmas.Str.{length-encode}
use Rattle.icu_zerovec.specs.CodePoints.{code_point_limit}
use Rattle.icu_utf.proofs.CallerLemmas.{two_bytes_found}
use Rattle.icu_frozen_sets.specs.FrozenWords.{bit_in, is_held}
use Rattle.icu_frozen_sets.specs.LongestSpans.{AllHeld}
use Rattle.icu_frozen_sets.specs.Inside.Filling.{bit_among}
use Rattle.icu_frozen_sets.specs.Inside.TwoByte.{AreShortWords, OfEach, has_bit, is_paired, word_of}
use Rattle.icu_frozen_sets.proofs.LongestSpanLemmas.{ascii_held, is_alike, one_more}

-- ---- how the words are made
-- The word of a code point says whether it is of the kind.
abbrev pub SaysOf : List ℕ → Bool → List ℕ → ℕ → Type 0
SaysOf table held words c = (bit_at (get_or words (c / 64) 0) (c % 64) == 1) ≡ beq (is_held table c) held

pub short_more : (table : List ℕ) (held : Bool) (words first : List ℕ) (k t : ℕ) → length words ≡ 36 → k < 32
    → ((c : ℕ) → c < 2048 → bit_among first c ≡ bit_in table c)
    → ((i : ℕ) → i < 64 → (bit_at t i == 1) ≡ beq (bit_at (get_or first k 0) i == 1) held)
    → ((c : ℕ) → c / 64 < k → SaysOf table held words c) → (c : ℕ) → c / 64 < k + 1 → SaysOf table held (set words k t) c
short_more table held words first k t n h is bits before c m = elim (cases_eq (c / 64) k) [
  | inl q ↦
      let there : k < length words = omega (arith, n, h) in
      let inside : is_held table c ≡ bit_in table c =
      ap (λ (b : Bool). b && bit_in table c) (lt-ltb c code_point_limit (omega (arith, q, h))) in
      let bit : (bit_at (get_or first k 0) (c % 64) == 1) ≡ bit_in table c =
      ap (λ (j : ℕ). bit_at (get_or first j 0) (c % 64) == 1) (sym q) ∙ is c (omega (arith, q, h)) in
      ap (λ (j : ℕ). bit_at j (c % 64) == 1) (get_or-set_at words k (c / 64) t 0 q there)
      ∙ (bits (c % 64) (omega arith) ∙ ap (λ (b : Bool). beq b held) (bit ∙ sym inside))
  | inr q ↦ ap (λ (j : ℕ). bit_at j (c % 64) == 1) (get_or-set_other words k (c / 64) t 0 q) ∙ before c (omega (arith, m, q))
]

-- ---- a byte and the one before it
lead_before : (before byte : ℕ) → is_paired before byte ≡ true → byte / 64 ≡ 2 → 0xC0 ≤ before
lead_before before byte p e = leb-true 0xC0 before (sym (is_alike _ _ p) ∙ eq-eqb (byte / 64) 2 e)

none_before : (before byte : ℕ) → is_paired before byte ≡ true → (byte / 64 ≡ 2 → ⊥) → before < 0xC0
none_before before byte p e = leb-false 0xC0 before (sym (is_alike _ _ p) ∙ ne_eqb (byte / 64) 2 e)

module _ (table : List ℕ) (held : Bool) (words : List ℕ) (w : AreShortWords table held words) (before byte : ℕ)
    (h : has_bit words before byte ≡ true) where
  own : (n : ℕ) → byte / 64 ≡ n → (n ≡ 2 → ⊥) → get_or words (word_of before byte) 0 ≡ get_or words (32 + n) 0
  own n e other = ap (λ (k : ℕ). get_or words k 0)
      (cond-false (byte / 64 == 2) (before % 32) (32 + byte / 64) (ne_eqb (byte / 64) 2 (λ z. other (sym e ∙ z)))
      ∙ ap (λ (k : ℕ). 32 + k) e)

  says_of : (c : ℕ) → c < 2048 → c % 64 ≡ byte % 64 → get_or words (word_of before byte) 0 ≡ get_or words (c / 64) 0
      → beq (is_held table c) held ≡ true
  says_of c l e at =
      sym (w.bits c l) ∙ (ap (λ (j : ℕ). bit_at j (c % 64) == 1) (sym at)
      ∙ (ap (λ (i : ℕ). bit_at (get_or words (word_of before byte) 0) i == 1) e ∙ h))

  of_ascii : byte < 128 → beq (is_held table byte) held ≡ true
  of_ascii l = elim (cases_lt byte 64) [
    | inl s ↦
        let q : byte / 64 ≡ 0 = omega arith in
        let at = own 0 q (λ z. omega (arith, z)) ∙ (w.low ∙ ap (λ (k : ℕ). get_or words k 0) (sym q)) in
        says_of byte (omega arith) refl at
    | inr s ↦
        let q : byte / 64 ≡ 1 = omega arith in
        let at = own 1 q (λ z. omega (arith, z)) ∙ (w.high ∙ ap (λ (k : ℕ). get_or words k 0) (sym q)) in
        says_of byte (omega arith) refl at
  ]

  of_trail : byte / 64 ≡ 2 → beq (is_held table (before % 32 * 64 + byte % 64)) held ≡ true
  of_trail e =
      let c : ℕ = before % 32 * 64 + byte % 64 in
      let word : c / 64 ≡ before % 32 = omega arith in
      let place : c % 64 ≡ byte % 64 = omega arith in
      let at : get_or words (word_of before byte) 0 ≡ get_or words (c / 64) 0 = ap (λ (k : ℕ). get_or words k 0)
      (cond-true (byte / 64 == 2) (before % 32) (32 + byte / 64) (eq-eqb (byte / 64) 2 e) ∙ sym word) in
      says_of c (omega arith) place at

  of_lead : 0xC0 ≤ byte → byte < 256 → (0xC2 ≤ byte) × (byte < 0xE0)
  of_lead l m =
      let q : byte / 64 ≡ 3 = omega arith in
      let at : get_or words (word_of before byte) 0 ≡ 2 ^ 32 - 2 ^ 2 = own 3 q (λ z. omega (arith, z)) ∙ w.leads in
      let bit : bit_at (2 ^ 32 - 2 ^ 2) (byte % 64) ≡ 1 =
      ap (λ (j : ℕ). bit_at j (byte % 64)) (sym at) ∙ eqb-true (bit_at (get_or words (word_of before byte) 0) (byte % 64)) 1 h in
      elim (cases_lt (byte % 64) 2) [
        | inl less ↦ absurd (omega (arith, bit, bit_at_mask_below 2 32 (byte % 64) less))
        | inr enough ↦ elim (cases_lt (byte % 64) 32) [
          | inl less ↦ (omega arith, omega arith)
          | inr more ↦ absurd (omega (arith, bit, bit_at_mask_above 2 32 (byte % 64) more))
        ]
      ]

-- ---- a test of each byte
-- A test of eight bytes of a window, whose first byte is the one before them.
pub of_window : (test : ℕ → ℕ → Bool) (bytes : List ℕ) (end n : ℕ) → 0 < end → n ≡ 9 → OfEach test (take n (drop (end - 1) bytes)) 1 9
    → OfEach test bytes end (end + 8)
of_window test bytes end n some e all i l m =
    let rest : List ℕ = drop (end - 1) bytes in
    let this : get_or (take n rest) (i - end + 1) 0 ≡ get_or bytes i 0 =
    get_or-take n rest (i - end + 1) 0 (omega arith)
    ∙ (get_or-drop (end - 1) bytes (i - end + 1) 0 ∙ ap (λ (j : ℕ). get_or bytes j 0) (omega arith)) in
    let before : get_or (take n rest) (i - end + 1 - 1) 0 ≡ get_or bytes (i - 1) 0 =
    get_or-take n rest (i - end + 1 - 1) 0 (omega arith)
    ∙ (get_or-drop (end - 1) bytes (i - end + 1 - 1) 0 ∙ ap (λ (j : ℕ). get_or bytes j 0) (omega arith)) in
    rw (before, this) at (all (i - end + 1) (omega arith) (omega arith))

-- ---- a text of such characters
module _ (table : List ℕ) (held : Bool) (words bytes : List ℕ) (w : AreShortWords table held words)
    (fits : (i : ℕ) → get_or bytes i 0 < 256) where
  abbrev AllFirst : ℕ → Type 0
  AllFirst n = AllHeld (is_held table) held (take n bytes)

  -- All bytes up to the one at index m are passed. That byte may be a lead byte.
  record ArePassed (m : ℕ) : Type 0 where
    whole : get_or bytes m 0 < 0xC0 → AllFirst (m + 1)
    part : 0xC0 ≤ get_or bytes m 0 → AllFirst m × (0xC2 ≤ get_or bytes m 0) × (get_or bytes m 0 < 0xE0)

  module _ (m : ℕ) (there : m + 1 < length bytes) (p : ArePassed m) (byte : ℕ) (is : byte ≡ get_or bytes (m + 1) 0)
      (paired : is_paired (get_or bytes m 0) byte ≡ true) (h : has_bit words (get_or bytes m 0) byte ≡ true) where
    one_passed : byte < 128 → AllFirst (m + 1 + 1)
    one_passed l =
        let before = none_before (get_or bytes m 0) byte paired (λ z. omega (arith, z)) in
        let alike = of_ascii table held words w (get_or bytes m 0) byte h l in
        ascii_held (is_held table) held bytes (m + 1) (m + 1 + 1) (record {
          order = omega arith;
          within = omega arith;
          ascii = λ i a b. let e : i ≡ m + 1 = omega arith in rw (e, ← is) l;
        }) (λ i a b. let e : i ≡ m + 1 = omega arith in rw (e, ← is) alike) (p.whole before)

    two_passed : byte / 64 ≡ 2 → AllFirst (m + 1 + 1)
    two_passed e =
        let lead : ℕ = get_or bytes m 0 in
        let before = p.part (lead_before lead byte paired e) in
        let a : ℕ = lead % 32 in
        let b : ℕ = byte % 64 in
        let from = before.1 in
        let to = before.2 in
        let rest : List ℕ = drop m bytes in
        let first : get_or rest 0 0 ≡ 192 + a = get_or-drop m bytes 0 0 ∙ (ap (λ (i : ℕ). get_or bytes i 0) (add-zero m) ∙ omega arith) in
        let second : get_or rest 1 0 ≡ 128 + b = get_or-drop m bytes 1 0 ∙ (sym is ∙ omega arith) in
        let more : 1 < length rest = omega (arith, length-drop m bytes, there) in
        let f = two_bytes_found rest a b first (omega arith) (omega arith) more second (omega arith) in
        let c : ℕ = a * 64 + b in
        let s : m + 2 ≡ m + 1 + 1 = omega arith in
        subst AllFirst s (one_more (is_held table) held bytes m (omega arith) before.0 c 2 f.0 (f.1 ∙ sym (length-encode c))
        (f.2 ∙ ap (λ (bs : List ℕ). encode_utf8 c ++ bs) (drop-drop 2 m bytes)) (omega arith)
        (is_alike _ _ (of_trail table held words w lead byte h e)))

    lead_passed : 0xC0 ≤ byte → AllFirst (m + 1) × (0xC2 ≤ byte) × (byte < 0xE0)
    lead_passed l =
        let before = none_before (get_or bytes m 0) byte paired (λ z. omega (arith, z, fits (m + 1))) in
        let lead = of_lead table held words w (get_or bytes m 0) byte h l (omega (arith, fits (m + 1))) in
        (p.whole before, lead.0, lead.1)

    byte_passed : ArePassed (m + 1)
    byte_passed = record {
      whole = λ l. elim (cases_lt byte 128) [
        | inl ascii ↦ one_passed ascii
        | inr more ↦ two_passed (omega arith)
      ];
      part = λ l. rw (← is) (lead_passed (omega arith));
    }

  bytes_passed : (k m : ℕ) → m + k < length bytes → ArePassed m → OfEach is_paired bytes (m + 1) (m + k + 1)
      → OfEach (has_bit words) bytes (m + 1) (m + k + 1) → ArePassed (m + k)
  bytes_passed zero m there p paired bits = rw add-zero p
  bytes_passed (suc k) m there p paired bits =
      let before = bytes_passed k m (omega arith) p (λ i a b. paired i a (omega arith)) (λ i a b. bits i a (omega arith)) in
      let e : m + suc k ≡ m + k + 1 = omega arith in
      let at : m + k + 1 - 1 ≡ m + k = omega arith in
      rw e (byte_passed (m + k) (omega arith) before (get_or bytes (m + k + 1) 0) refl
      (rw at at (paired (m + k + 1) (omega arith) (omega arith))) (rw at at (bits (m + k + 1) (omega arith) (omega arith))))

  module _ (start end : ℕ) (some : 0 < start) (order : start ≤ end) (within : end ≤ length bytes)
      (whole_start : get_or bytes (start - 1) 0 < 0xC0) (paired : OfEach is_paired bytes start end)
      (bits : OfEach (has_bit words) bytes start end) (all : AllFirst start) where
    passed_at_end : ArePassed (end - 1)
    passed_at_end =
        let e : start - 1 + 1 ≡ start = omega arith in
        let f : start - 1 + (end - start) ≡ end - 1 = omega arith in
        let first : ArePassed (start - 1) = record { whole = λ l. rw e all; part = λ l. absurd (omega arith) } in
        subst ArePassed f (bytes_passed (end - start) (start - 1) (omega arith) first
        (λ i a b. paired i (omega arith) (omega arith)) (λ i a b. bits i (omega arith) (omega arith)))

    pub past_whole : get_or bytes (end - 1) 0 < 0xC0 → AllFirst end
    past_whole l = let e : end - 1 + 1 ≡ end = omega arith in subst AllFirst e (passed_at_end.whole l)

    pub past_part : 0xC0 ≤ get_or bytes (end - 1) 0 → AllFirst (end - 1)
    past_part l = (passed_at_end.part l).0
