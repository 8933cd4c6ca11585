use Rattle.std.proofs.Common.{◌-◌, ◌≤◌, length}
use Rattle.ucptrie_tables.specs.Joins.{IsJoinTo}
use Rattle.ucptrie_tables.proofs.join.joined.Given as goal

-- the code points so far are joined
abbrev pub invariant-loop-start : goal.invariant-loop-start
invariant-loop-start l = record {
  within : l.start ≤ 0x110000;
  count : length l.firsts.items ≤ l.start;
  joined : IsJoinTo l.columns l.start l.firsts.items l.writes.items;
}

abbrev pub decreases-loop-start : goal.decreases-loop-start
decreases-loop-start l = 0x110000 - l.start
