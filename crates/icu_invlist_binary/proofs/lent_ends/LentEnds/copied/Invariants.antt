use Rattle.std.proofs.Common.{◌≡◌, ◌+◌, ◌-◌, ◌%◌, ◌≤◌, take}
use Rattle.std.specs.Vec.{vec_len, vec_capacity}
use Rattle.icu_invlist_binary.specs.Inside.LentEnds.{ends_lent}
use Rattle.icu_invlist_binary.proofs.lent_ends.LentEnds.copied.Given as goal

abbrev pub invariant-loop-i : goal.invariant-loop-i
invariant-loop-i l = record {
  items : l.ends.items ≡ take l.i (ends_lent l.self);
  room : vec_len l.ends + (l.count - l.i) + l.count % 2 ≤ vec_capacity l.ends;
}
