-- The values of all code points, from those that are stored.
use Rattle.std.proofs.Common.{◌≡◌, ℕ, ◌+◌, ◌-◌, ◌<◌, ◌≤◌, List, ◌++◌, Option, Some, length, replicate, slice_index, take, inl, inr, refl, sym, ap, ◌∙◌, arith}
use Rattle.std.specs.Option.{option_or}
use Rattle.std.proofs.lemmas.Bool.{cases_lt, le-ltb}
use Rattle.std.proofs.lemmas.List.{get_or_append_left, get_or-append_right, get_or-replicate, take_all}
use Rattle.icu_trie_core.specs.Format.{answer, fast_limit, high_value}
use Rattle.icu_trie.specs.Parts.{Parts, last_cell, trie_value}

module _ (t : Parts ℕ) where
  high : (u : ℕ) → u < 0x110000 → fast_limit t.header.trie_type ≤ u → t.header.high_start ≤ u
      → trie_value t u ≡ option_or (high_value t.values) (last_cell t.values)
  unfolding answer
  high u within fast start =
      rw (le-ltb 1114111 u (omega (arith, within)), le-ltb u (fast_limit t.header.trie_type) fast, le-ltb u t.header.high_start start) refl

  -- from the fast limit and the high start on, each code point has the value of the last one
  pub trie_value-high : (u : ℕ) → u < 0x110000 → fast_limit t.header.trie_type ≤ u → t.header.high_start ≤ u
      → trie_value t u ≡ trie_value t 0x10FFFF
  trie_value-high u within fast start =
      high u within fast start ∙ sym (high 0x10FFFF (omega arith) (omega (arith, within, fast)) (omega (arith, within, start)))

-- the values of all numbers below a limit, if the last ones are one value
pub values-filled : (value : ℕ → Option ℕ) (limit end count last : ℕ) (old new : List ℕ) → length old ≡ end → end ≤ limit
    → limit ≤ end + count → new ≡ take limit old ++ replicate count last
    → ((u : ℕ) → u < end → value u ≡ Some (slice_index old u)) → ((u : ℕ) → end ≤ u → u < limit → value u ≡ Some last)
    → (u : ℕ) → u < limit → value u ≡ Some (slice_index new u)
values-filled value limit end count last old new had within enough is held high u below =
    let rest = replicate count last in
    let whole : new ≡ old ++ rest = is ∙ ap (λ l. l ++ rest) (take_all limit old (omega (arith, had, within))) in
    elim (cases_lt u end) [
      | inl low ↦ held u low ∙ ap Some (sym (ap (λ l. slice_index l u) whole ∙ get_or_append_left old rest 0 u (omega (arith, low, had))))
      | inr from ↦ high u from below ∙ ap Some (sym (ap (λ l. slice_index l u) whole ∙ (get_or-append_right old rest end u 0 had from
          ∙ get_or-replicate count (u - end) last 0 (omega (arith, enough, from, below)))))
    ]
