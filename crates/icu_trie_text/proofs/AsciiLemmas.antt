-- The values of ASCII in a trie whose data start with them.
use Rattle.std.proofs.Common.{◌≡◌, ap, refl, ℕ, zero, suc, ◌+◌, ◌/◌, ◌%◌, ◌<◌, ◌≤◌, List, length, slice_get, Some, arith, inl, inr}
use Rattle.std.proofs.lemmas.Bool.{cases_lt, le-ltb, lt-ltb}
use Rattle.std.proofs.lemmas.Option.{slice_get_cases}
use Rattle.icu_trie_core.specs.Format.{answer, fast_limit, place}
use Rattle.icu_trie_core.specs.declared.header.TrieType.{TrieType}
use Rattle.icu_trie_core.specs.declared.header.TrieType.TheVariants.{Fast, Small}
use Rattle.icu_trie.specs.Parts.{Parts, trie_value}
use Rattle.icu_trie_text.specs.Inside.Ascii.{HasAsciiInPlace}

below_limit : (kind : TrieType) (c : ℕ) → c < 128 → c < fast_limit kind
below_limit Fast c h = omega arith
below_limit Small c h = omega arith

module _ {T : Type 0} (t : Parts T) (first : slice_get t.index 0 ≡ Some 0) (second : slice_get t.index 1 ≡ Some 64)
    (there : 128 ≤ length t.values) where
  place_of : (c : ℕ) → c < 128 → place t.header t.index (length t.values) c ≡ Some c
  place_of c h =
      rw (le-ltb 0x10FFFF c (omega arith), lt-ltb c (fast_limit t.header.trie_type) (below_limit t.header.trie_type c h))
      (elim (cases_lt c 64) [
        | inl low ↦ let block : c / 64 ≡ 0 = omega arith in let same : 0 + c % 64 ≡ c = omega arith in rw (block, first) (ap Some same)
        | inr high ↦ let block : c / 64 ≡ 1 = omega arith in let same : 64 + c % 64 ≡ c = omega arith in rw (block, second) (ap Some same)
      ])

  in_place : (c : ℕ) → c < 128 → trie_value t c ≡ slice_get t.values c
  unfolding answer
  in_place c h = rw (place_of c h) (elim ((slice_get_cases t.values c).1) [
    | inl found ↦ rw found.2 refl
    | inr past ↦ absurd (omega (arith, past.0))
  ])

  ascii_in_place : (end : ℕ) → end ≤ 128 → HasAsciiInPlace t t.values end
  ascii_in_place end e = record { ascii = e; there = omega arith; in_place = λ c h. in_place c (omega arith) }

-- What the checks of the index and of the data imply.
pub ascii_known : {T : Type 0} (t : Parts T) (index : List ℕ) (values : List T) (end : ℕ) → index ≡ t.index → values ≡ t.values → end ≤ 128
    → (0 < end → slice_get index 0 ≡ Some 0) → (0 < end → slice_get index 1 ≡ Some 64) → (0 < end → 128 ≤ length values)
    → HasAsciiInPlace t values end
ascii_known t index values zero i v e first second there =
    record { ascii = omega arith; there = omega arith; in_place = λ c h. absurd (omega (arith, h)) }
ascii_known t index values (suc n) i v e first second there =
    rw v (ascii_in_place t (rw i at (first (omega arith))) (rw i at (second (omega arith))) (rw v at (there (omega arith))) (suc n) e)
