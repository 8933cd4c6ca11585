use Rattle.std.proofs.Common.{◌≡◌, ◌+◌, ◌-◌, ℕ, bit_and, bit_or, drop, get_or, Fits, w8, eqb-true, refl, arith, inl, inr}
use Rattle.std.proofs.lemmas.Bool.{cases_lt}
use Rattle.std.proofs.lemmas.List.{get_or-drop, take_rest}
use Rattle.std.proofs.lemmas.Nat.{le_or_l, le_or_r}
use Rattle.icu_trie_text.proofs.WordLemmas.{all_ascii, no_high}
use Rattle.icu_trie_text.proofs.copy_parts.are_ascii.Goals as goal

pub returns : goal.returns
returns c =
    let bytes = c.args.bytes.now in
    let a : ℕ = bit_and c.word_of-first.result 0x8080_8080_8080_8080 in
    let b : ℕ = bit_and c.word_of-second.result 0x8080_8080_8080_8080 in
    let own : (i : ℕ) → Fits w8 (get_or (drop 8 bytes) i 0) = λ i. rw (get_or-drop 8 bytes i 0) (c.type_inv.bytes (8 + i)) in
    let second = rw (take_rest bytes 8) at c.word_of-second.ensures in (
      λ t k l.
          let both : bit_or a b ≡ 0 = eqb-true (bit_or a b) 0 t in
          elim (cases_lt k 8) [
            | inl front ↦ all_ascii bytes c.type_inv.bytes a (rw c.word_of-first.ensures refl) (omega (arith, both, le_or_l a b)) k front
            | inr from ↦
                let there = all_ascii (drop 8 bytes) own b (rw second refl) (omega (arith, both, le_or_r a b)) (k - 8) (omega (arith, l)) in
                let same : 8 + (k - 8) ≡ k = omega (arith, from) in
                rw (get_or-drop 8 bytes (k - 8) 0, same) at there
          ],
      λ ascii.
          let none : a ≡ 0 = rw c.word_of-first.ensures (no_high bytes c.type_inv.bytes (λ i l. ascii i (omega (arith, l)))) in
          let none_too : b ≡ 0 = rw second
          (no_high (drop 8 bytes) own (λ i l. rw (get_or-drop 8 bytes i 0) (ascii (8 + i) (omega (arith, l))))) in
          rw (none, none_too) refl,
    )
