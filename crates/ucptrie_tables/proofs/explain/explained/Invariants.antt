use Rattle.std.proofs.Common.{◌≡◌, ℕ, ◌^◌, ◌<◌, Some, take, string_bytes}
use Rattle.icu_trie.specs.Parts.{trie_value}
use Rattle.ucptrie_tables.specs.Shown.{IsExplained}
use Rattle.ucptrie_tables.proofs.explain.explained.Given as goal

-- the numbers so far are explained
abbrev pub invariant-loop-c : goal.invariant-loop-c
invariant-loop-c l = (given : ℕ → ℕ) → ((n : ℕ) → n < 2 ^ 32 → trie_value l.table.trie n ≡ Some (given n))
    → IsExplained given (take l.c-index l.asked) (string_bytes l.text)
