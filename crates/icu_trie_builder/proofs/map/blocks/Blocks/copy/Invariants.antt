use Rattle.std.proofs.Common.{◌≡◌, ◌*◌, ◌-◌, ◌++◌}
use Rattle.icu_trie_core.specs.Blocks.{window}
use Rattle.icu_trie_builder.proofs.map.blocks.Blocks.copy.Given as goal

abbrev pub invariant-loop-block : goal.invariant-loop-block
invariant-loop-block l =
    l.room.items ≡ l.initial.room.items ++ window (16 * (l.block - l.first)) (16 * l.first) l.self.numbers
