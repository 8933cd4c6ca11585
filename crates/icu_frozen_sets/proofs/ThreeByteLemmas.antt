-- Characters of three bytes by the upper bits of their code points, and what has passed them.
use Rattle.std.proofs.Common.{◌≡◌, ◌∙◌, sym, ap, subst, refl, ℕ, ◌+◌, ◌-◌, ◌*◌, ◌/◌, ◌%◌, ◌<◌, ◌≤◌, Bool, true, false, List, ◌++◌, length, take, drop, get_or, set, arith, inl, inr, Some}
use Rattle.std.specs.Prelude.{◌⊎◌, ◌==◌, ◌&&◌, ◌||◌}
use Rattle.std.specs.Char.{encode_utf8}
use Rattle.std.specs.Int.{bit_at}
use mathlib.Core.Bool.{beq, not}
use Rattle.std.proofs.lemmas.Bool.{cases_eq, cases_lt, cond-false, cond-true, eq-eqb, lt-ltb, or_parts, true≢false}
use Rattle.std.proofs.lemmas.Grind.{get_or-set_at}
use Rattle.std.proofs.lemmas.List.{drop-drop, get_or-set_other, length-append, length-drop}
use Rattle.std.proofs.lemmas.Str.{length-encode}
use Rattle.icu_zerovec.specs.CodePoints.{code_point_limit}
use Rattle.icu_utf.specs.Utf8.{IsFirstPart}
use Rattle.icu_utf.proofs.CallerLemmas.{three_bytes_found}
use Rattle.icu_frozen_sets.specs.FrozenWords.{bit_in, is_held, place_in}
use Rattle.icu_frozen_sets.specs.LongestSpans.{AllHeld, IsSpan}
use Rattle.icu_frozen_sets.specs.Inside.ThreeByte.{AreBitsOf, AreOfThree, IsPassed, IsThree, wide_place}
use Rattle.icu_frozen_sets.specs.declared.three_byte.Passed.{Passed}
use Rattle.icu_frozen_sets.proofs.LongestSpanLemmas.{is_alike, is_other, one_more, span_to_other}

-- ---- a character at the start of bytes
-- It is within them.
pub part_there : (bytes : List ℕ) (c size : ℕ) → IsFirstPart bytes (Some c) size → size ≤ length bytes
part_there bytes c size p =
    omega (arith, p.1, length-encode c, ap (λ (bs : List ℕ). length bs) p.2, length-append (encode_utf8 c) (drop size bytes))

pub three_starts : (bytes : List ℕ) (high : ℕ) → 3 ≤ length bytes → IsThree bytes high → AreOfThree high
    → IsFirstPart bytes (Some (64 * high + get_or bytes 2 0 % 64)) 3
three_starts bytes high n t o = three_bytes_found bytes high n t.lead t.first t.second o.0 t.most o.1

-- One more character of the kind, which is the first part of the rest.
pub next_held : (is_in : ℕ → Bool) (held : Bool) (bytes : List ℕ) (n : ℕ) → n ≤ length bytes → AllHeld is_in held (take n bytes)
    → (c size : ℕ) → IsFirstPart (drop n bytes) (Some c) size → n + size ≤ length bytes → beq (is_in c) held ≡ true
    → AllHeld is_in held (take (n + size) bytes)
next_held is_in held bytes n within alike c size part there is =
    one_more is_in held bytes n within alike c size part.0 (part.1 ∙ sym (length-encode c))
    (part.2 ∙ ap (λ (bs : List ℕ). encode_utf8 c ++ bs) (drop-drop size n bytes)) there (is_alike _ _ is)

-- ---- what has passed characters
pub record Walks (sound : Type 0) (is_in : ℕ → Bool) (held : Bool) (bytes : List ℕ) (start : ℕ) (rest : List ℕ) : Type 0 where
  pub few : length rest ≤ length bytes
  pub order : start ≤ length bytes - length rest
  pub rest_is : rest ≡ drop (length bytes - length rest) bytes
  pub alike : sound → AllHeld is_in held (take start bytes) → AllHeld is_in held (take (length bytes - length rest) bytes)

module _ (sound : Type 0) (is_in : ℕ → Bool) (held : Bool) (bytes : List ℕ) (start : ℕ) where
  pub walks_start : start ≤ length bytes → Walks sound is_in held bytes start (drop start bytes)
  walks_start l =
      let n : ℕ = length bytes - length (drop start bytes) in
      let at : start ≡ n = omega (arith, l, length-drop start bytes) in
      record {
        few = omega (arith, length-drop start bytes);
        order = omega (arith, at);
        rest_is = ap (λ (k : ℕ). drop k bytes) at;
        alike = λ s all. subst (λ (k : ℕ). AllHeld is_in held (take k bytes)) at all;
      }

  module _ (rest : List ℕ) (w : Walks sound is_in held bytes start rest) (c size : ℕ) (p : IsFirstPart rest (Some c) size) where
    pub walks_more : (sound → beq (is_in c) held ≡ true) → Walks sound is_in held bytes start (drop size rest)
    walks_more alike =
        let few = w.few in
        let order = w.order in
        let there = part_there rest c size p in
        let n : ℕ = length bytes - length rest in
        let left = length-drop size rest in
        let next : n + size ≡ length bytes - length (drop size rest) = omega (arith, left, few, there) in
        let at : drop size rest ≡ drop (n + size) bytes =
        ap (λ (bs : List ℕ). drop size bs) w.rest_is ∙ drop-drop size n bytes in
        let here : IsFirstPart (drop n bytes) (Some c) size =
        subst (λ (bs : List ℕ). IsFirstPart bs (Some c) size) w.rest_is p in
        record {
          few = omega (arith, left, few);
          order = omega (arith, next, order);
          rest_is = at ∙ ap (λ (k : ℕ). drop k bytes) next;
          alike = λ s all. subst (λ (k : ℕ). AllHeld is_in held (take k bytes)) next
              (next_held is_in held bytes n (omega arith) (w.alike s all) c size here (omega (arith, few, there)) (alike s));
        }

    pub passed_end : (passed : Passed) → passed.end ≡ length bytes - length rest → (sound → beq (is_in c) held ≡ false)
        → IsPassed sound is_in held bytes start passed
    passed_end passed e differs = record {
      order = omega (arith, e, w.order);
      within = omega (arith, e);
      alike = λ s all. subst (λ (k : ℕ). AllHeld is_in held (take k bytes)) (sym e) (w.alike s all);
      ends = λ s is. (
        c,
        drop size rest,
        p.0,
        ap (λ (k : ℕ). drop k bytes) e ∙ (sym w.rest_is ∙ p.2),
        differs s,
      );
    }

  pub passed_so_far : (rest : List ℕ) → Walks sound is_in held bytes start rest → (passed : Passed)
      → passed.end ≡ length bytes - length rest → passed.is_end ≡ false → IsPassed sound is_in held bytes start passed
  passed_so_far rest w passed e none = record {
    order = omega (arith, e, w.order);
    within = omega (arith, e);
    alike = λ s all. subst (λ (k : ℕ). AllHeld is_in held (take k bytes)) (sym e) (w.alike s all);
    ends = λ s is. cc;
  }

  -- A span that ends there.
  pub span_passed : (passed : Passed) → IsPassed sound is_in held bytes start passed → sound → passed.is_end ≡ true
      → AllHeld is_in held (take start bytes) → IsSpan is_in held bytes passed.end
  span_passed passed p s e all =
      let d = p.ends s e in
      span_to_other is_in held bytes passed.end p.within (p.alike s all) d.0 d.1 d.2 d.3 (is_other _ _ d.4)

-- ---- the bits of 64 code points
-- Those of a frozen set.
pub table_bits : (table : List ℕ) (high place w : ℕ) → high < 1024 → place ≡ place_in table (high / 16) + high % 16
    → w ≡ get_or table place 0 → AreBitsOf (is_held table) high w
table_bits table high place w most p e j l =
    let c : ℕ = 64 * high + j in
    let block : c / 1024 ≡ high / 16 = omega arith in
    let word : c / 64 ≡ high = omega arith in
    let rest : c % 64 ≡ j = omega arith in
    let inside : is_held table c ≡ bit_in table c =
    ap (λ (b : Bool). b && bit_in table c) (lt-ltb c code_point_limit (omega arith)) in
    let at : place_in table (c / 1024) + c / 64 % 16 ≡ place = rw (block, word) (sym p) in
    let bit : bit_in table c ≡ (bit_at w j == 1) =
    ap (λ (k : ℕ). bit_at (get_or table k 0) (c % 64) == 1) at
    ∙ (ap (λ (k : ℕ). bit_at (get_or table place 0) k == 1) rest ∙ ap (λ (k : ℕ). bit_at k j == 1) (sym e)) in
    sym (inside ∙ bit)

-- A block that has an offset has characters of three bytes.
pub has_place : (table : List ℕ) (high place : ℕ) → high < 1024 → place ≡ wide_place table (high / 16) → (place ≡ 0xFFFF_FFFF → ⊥)
    → AreOfThree high × (place ≡ place_in table (high / 16))
has_place table high place most e some = elim (told (high / 16 / 2 == 0 || high / 16 / 2 == 27)) [
  | inl is ↦ absurd (some (e ∙ cond-true _ 0xFFFF_FFFF (place_in table (high / 16)) is))
  | inr not ↦
      let parts = or_parts _ _ not in
      let first : high / 16 / 2 ≡ 0 → ⊥ = λ z. absurd_of _ (eq-eqb _ _ z) parts.0 in
      let last : high / 16 / 2 ≡ 27 → ⊥ = λ z. absurd_of _ (eq-eqb _ _ z) parts.1 in
      let low : 0x20 ≤ high = elim (cases_lt high 0x20) [ inl l ↦ absurd (first (omega arith)) | inr l ↦ l ] in (
        (
          low,
          elim (cases_lt high 0x360) [
            | inl l ↦ inl l
            | inr l ↦ elim (cases_lt high 0x380) [ inl m ↦ absurd (last (omega arith)) | inr m ↦ inr m ]
          ],
        ),
        e ∙ cond-false _ 0xFFFF_FFFF (place_in table (high / 16)) not,
      )
] where
  told : (b : Bool) → (b ≡ true) ⊎ (b ≡ false)
  told true = inl refl
  told false = inr refl

  absurd_of : (b : Bool) → b ≡ true → b ≡ false → ⊥
  absurd_of b e f = cc

off : (t : Bool) → not t ≡ true → t ≡ false
off true n = absurd (true≢false (sym n))
off false n = refl

on : (t : Bool) → not t ≡ false → t ≡ true
on true n = refl
on false n = absurd (true≢false n)

pub other_of : (b a held : Bool) → b ≡ a → not (beq b held) ≡ true → beq a held ≡ false
other_of b a held e n = subst (λ (t : Bool). beq t held ≡ false) e (off (beq b held) n)

pub same_of : (b a held : Bool) → b ≡ a → not (beq b held) ≡ false → beq a held ≡ true
same_of b a held e n = subst (λ (t : Bool). beq t held ≡ true) e (on (beq b held) n)

-- What the bit of the third byte says.
pub bit_says : (table : List ℕ) (held : Bool) (high w z : ℕ) (b : Bool) → AreBitsOf (is_held table) high w
    → b ≡ (bit_at w (z % 64) == 1) → b ≡ is_held table (64 * high + z % 64)
bit_says table held high w z b bits e = e ∙ bits (z % 64) (omega arith)

-- One more offset is written.
pub wide_more : (table places : List ℕ) (k place : ℕ) → length places ≡ 64 → k < 64 → place ≡ wide_place table k
    → ((b : ℕ) → b < k → get_or places b 0 ≡ wide_place table b) → (b : ℕ) → b < k + 1 → get_or (set places k place) b 0 ≡ wide_place table b
wide_more table places k place n l is before b m = elim (cases_eq b k) [
  | inl q ↦ get_or-set_at places k b place 0 q (omega (arith, n, l)) ∙ (is ∙ ap (λ (i : ℕ). wide_place table i) (sym q))
  | inr q ↦ get_or-set_other places k b place 0 q ∙ before b (omega (arith, m, q))
]
