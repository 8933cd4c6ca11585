use Rattle.std.proofs.Common.{◌<◌, length}
use Rattle.icu_trie_builder.proofs.data.used_numbers.least_used.Given as goal

abbrev pub invariant-loop-i : goal.invariant-loop-i
invariant-loop-i l = l.least < length l.uses
