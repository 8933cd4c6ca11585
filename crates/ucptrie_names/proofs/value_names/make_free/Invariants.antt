use Rattle.std.proofs.Common.{◌+◌, ◌-◌, length, string_bytes, List, ℕ}
use Rattle.ucptrie_names.specs.ValueIdentifiers.{IsFirstFree}
use Rattle.ucptrie_names.proofs.IdentifierLemmas.{bytes_taken}
use Rattle.ucptrie_names.proofs.value_names.make_free.Given as goal

-- the first free one from here on is that of the identifier
abbrev pub invariant-loop-identifier : goal.invariant-loop-identifier
invariant-loop-identifier l = (text : List ℕ) → IsFirstFree l.is_rust l.values l.number (string_bytes l.identifier) text
    → IsFirstFree l.is_rust l.values l.number (string_bytes l.initial.identifier) text

abbrev pub decreases-loop-identifier : goal.decreases-loop-identifier
decreases-loop-identifier l = bytes_taken l.values + 1 - length (string_bytes l.identifier)
