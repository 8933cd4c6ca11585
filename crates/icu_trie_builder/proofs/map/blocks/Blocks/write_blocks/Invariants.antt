use Rattle.std.proofs.Common.{◌-◌, ◌≤◌}
use Rattle.icu_trie_builder.specs.Inside.Map.Blocks.{IsBorder, IsWritten}
use Rattle.icu_trie_builder.proofs.map.blocks.Blocks.write_blocks.Given as goal

abbrev pub invariant-loop-from : goal.invariant-loop-from
invariant-loop-from l = record {
  from : l.start ≤ l.from;
  within : l.from ≤ l.end;
  first : IsBorder l.self l.from;
  last : IsBorder l.self l.end;
  written : IsWritten l.initial.self.numbers l.self.numbers l.start l.from l.number;
}

abbrev pub decreases-loop-from : goal.decreases-loop-from
decreases-loop-from l = l.end - l.from
