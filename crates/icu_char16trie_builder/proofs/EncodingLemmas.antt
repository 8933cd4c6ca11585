-- A number that was written is read back.
use Rattle.std.proofs.Common.{◌≡◌, ℕ, ◌+◌, ◌-◌, ◌*◌, ◌/◌, ◌%◌, ◌<◌, ◌≤◌, Bool, true, false, cond, nat_lt, List, [], ◌∷◌, ◌++◌, Some, refl, ap, arith, length, inl, inr}
use Rattle.std.proofs.lemmas.Bool.{lt-ltb, le-ltb, cases_lt}
use Rattle.std.proofs.lemmas.Nat.{div-add-mod'}
use Rattle.icu_char16trie.specs.Numbers.{number_by, end_by}
use Rattle.icu_char16trie_builder.specs.Inside.Encoding.{lead_by, tail_by}

pub pick : {A : Type 0} (b : Bool) (x y : A) → b ≡ true → cond b x y ≡ x
pick true x y h = refl
pick false x y h = cc

pub skip : {A : Type 0} (b : Bool) (x y : A) → b ≡ false → cond b x y ≡ y
skip true x y h = cc
skip false x y h = refl

-- From the lead, and the tail in front of other units, the number is read.
pub record IsRead (two three : ℕ) (units : List ℕ) (n lead : ℕ) (tail : List ℕ) : Type 0 where
  pub number : number_by two three (tail ++ units) 0 lead ≡ Some n
  pub end : (p : ℕ) → end_by two three p lead ≡ p + length tail
  pub within : lead ≤ three
  pub few : length tail ≤ 2

halves : (n : ℕ) → n / 0x10000 * 0x10000 + n % 0x10000 ≡ n
halves n = div-add-mod' n 0x10000

in_one : (two three n : ℕ) (units : List ℕ) → two < three → n < two → IsRead two three units n n []
unfolding number_by end_by
in_one two three n units h a =
    let e : nat_lt n two ≡ true = lt-ltb n two a in
    record { number = rw e refl; end = λ p. rw e (omega arith); within = omega (arith, h, a); few = omega arith }

in_two : (two three n w : ℕ) (units : List ℕ) → w ≡ two + n / 0x10000 → w < three → IsRead two three units n w ((n % 0x10000) ∷ [])
unfolding number_by end_by
in_two two three n w units e h =
    let not_one : nat_lt w two ≡ false = le-ltb w two (omega (arith, e)) in
    let is_two : nat_lt w three ≡ true = lt-ltb w three h in
    let high : w - two ≡ n / 0x10000 = omega (arith, e) in
    record {
      number = rw (not_one, is_two, high) (ap Some (halves n));
      end = λ p. rw (not_one, is_two) refl;
      within = omega (arith, h);
      few = omega arith;
    }

in_three : (two three n : ℕ) (units : List ℕ) → two < three → IsRead two three units n three ((n / 0x10000) ∷ (n % 0x10000) ∷ [])
unfolding number_by end_by
in_three two three n units h =
    let not_one : nat_lt three two ≡ false = le-ltb three two (omega (arith, h)) in
    let not_two : nat_lt three three ≡ false = le-ltb three three (omega arith) in
    record {
      number = rw (not_one, not_two) (ap Some (halves n));
      end = λ p. rw (not_one, not_two) refl;
      within = omega arith;
      few =
          omega arith;
    }

pub read_back : (two three n : ℕ) (units : List ℕ) → two < three → IsRead two three units n (lead_by two three n) (tail_by two three n)
unfolding lead_by tail_by
read_back t h n units l =
    elim (cases_lt n t) [
      | inl a ↦ rw (lt-ltb n t a) (in_one t h n units l a)
      | inr a ↦ elim (cases_lt n ((h - t) * 0x10000)) [
        | inl b ↦ rw (le-ltb n t a, lt-ltb n ((h - t) * 0x10000) b) (in_two t h n (t + n / 0x10000) units refl (omega (arith, b)))
        | inr b ↦ rw (le-ltb n t a, le-ltb n ((h - t) * 0x10000) b) (in_three t h n units l)
      ]
    ]
