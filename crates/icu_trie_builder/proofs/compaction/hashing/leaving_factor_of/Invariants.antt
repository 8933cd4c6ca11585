use Rattle.std.proofs.Common.{◌≡◌, ◌*◌, ◌%◌, ◌^◌}
use Rattle.icu_trie_builder.proofs.compaction.hashing.leaving_factor_of.Given as goal

abbrev pub invariant-loop : goal.invariant-loop
invariant-loop l = l.factor ≡ (0xffffffffffffffff * 0x9e3779b97f4a7c15 ^ l.counter) % 2 ^ 64
