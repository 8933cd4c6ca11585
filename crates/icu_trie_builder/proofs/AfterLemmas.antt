-- The map after some writes.
use Rattle.std.proofs.Common.{◌≡◌, ℕ, ◌+◌, ◌<◌, ◌≤◌, List, [], ◌∷◌, ◌++◌, length, Option, Some, None, get_or, refl, arith, ◌∙◌, sym, min, ap}
use Rattle.std.specs.Option.{option_or, unwrap_or}
use Rattle.std.proofs.lemmas.Bool.Decides.{nat_tests}
use Rattle.icu_trie_builder.specs.declared.writes.Write.{Write}
use Rattle.icu_trie_core.specs.declared.header.TrieType.{TrieType}
use Rattle.icu_trie_builder.specs.CodePointMap.{CodePointMap, value_of_number, values_of_numbers, IsAfter, map_value}
use Rattle.icu_trie_builder.specs.Writes.{write_first, write_last, write_value, value_after, last_written}
use Rattle.icu_trie_builder.proofs.WholeLemmas.{number_value-at}

-- A write that is accepted and fills its range.
pub value_after-filled : {T : Type 0} (w : Write T) (old new : T) (c : ℕ)
    → write_first w ≤ write_last w → write_first w ≤ 0x10FFFF → c ≤ 0x10FFFF
    → (write_first w ≤ c → c ≤ write_last w → new ≡ write_value w) → (c < write_first w → new ≡ old) → (write_last w < c → new ≡ old)
    → new ≡ value_after (w ∷ []) old c
value_after-filled w old new c h k l inside before after = grind (arith, nat_tests)

-- Numbers after an accepted write: its range is filled with the number of its value.
pub IsAfter-filled : {T : Type 0} (of_number : ℕ → Option T) (w : Write T) (numbers filled : List ℕ) (n : ℕ) (d error : T)
    (trie_type : TrieType) (end : ℕ)
    → write_first w ≤ end → end ≡ min (write_last w) 0x10FFFF
    → length numbers ≡ 0x110000 → length filled ≡ 0x110000 → value_of_number of_number d n ≡ write_value w
    → ((k : ℕ) → write_first w ≤ k → k < end + 1 → get_or filled k 0 ≡ n)
    → ((k : ℕ) → k < write_first w → get_or filled k 0 ≡ get_or numbers k 0)
    → ((k : ℕ) → end + 1 ≤ k → get_or filled k 0 ≡ get_or numbers k 0)
    → IsAfter (w ∷ []) (record { values = values_of_numbers of_number d numbers; default = d; error = error; trie_type = trie_type })
    (record { values = values_of_numbers of_number d filled; default = d; error = error; trie_type = trie_type })
IsAfter-filled of_number w numbers filled n d error trie_type end h m len len' is inside before after = record {
  values = λ c lt.
      let V = value_of_number of_number d in
      rw (number_value-at of_number d numbers c (omega (arith, lt, len)), number_value-at of_number d filled c (omega (arith, lt, len')))
      (value_after-filled w (V (get_or numbers c 0)) (V (get_or filled c 0)) c (omega arith) (omega arith) lt
      (λ a b. ap V (inside c a (omega arith)) ∙ is) (λ a. ap V (before c a)) (λ a. ap V (after c (omega arith))));
  default = refl;
  error = refl;
  trie_type = refl;
}

option_or-none : {A : Type 0} (o : Option A) → option_or o None ≡ o
option_or-none None = refl
option_or-none (Some x) = refl

option_or_assoc : {A : Type 0} (a b c : Option A) → option_or (option_or a b) c ≡ option_or a (option_or b c)
option_or_assoc None b c = refl
option_or_assoc (Some x) b c = refl

pub unwrap_or-option_or : {A : Type 0} (a b : Option A) (d : A) → unwrap_or (option_or a b) d ≡ unwrap_or a (unwrap_or b d)
unwrap_or-option_or None b d = refl
unwrap_or-option_or (Some x) b d = refl

-- Of two lists of writes, the second one takes precedence.
pub last_written-append : {T : Type 0} (ws vs : List (Write T)) (c : ℕ)
    → last_written (ws ++ vs) c ≡ option_or (last_written vs c) (last_written ws c)
last_written-append [] vs c = sym (option_or-none (last_written vs c))
last_written-append (w ∷ ws) vs c = rw (last_written-append ws vs c) (option_or_assoc (last_written vs c) (last_written ws c) _)

pub value_after-append : {T : Type 0} (ws vs : List (Write T)) (old : T) (c : ℕ)
    → value_after (ws ++ vs) old c ≡ value_after vs (value_after ws old c) c
value_after-append ws vs old c = rw (last_written-append ws vs c) (unwrap_or-option_or (last_written vs c) (last_written ws c) old)

pub IsAfter-append : {T : Type 0} (ws vs : List (Write T)) (a b e : CodePointMap T) → IsAfter ws a b → IsAfter vs b e
    → IsAfter (ws ++ vs) a e
IsAfter-append ws vs a b e p q = record {
  values = λ c l. q.values c l ∙ (ap (λ v. value_after vs v c) (p.values c l) ∙ sym (value_after-append ws vs (map_value a c) c));
  default = q.default ∙ p.default;
  error = q.error ∙ p.error;
  trie_type = q.trie_type ∙ p.trie_type;
}
