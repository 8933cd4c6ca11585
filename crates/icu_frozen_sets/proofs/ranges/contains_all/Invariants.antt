use Rattle.std.proofs.Common.{◌≡◌, ℕ, ◌-◌, ◌<◌, ◌≤◌, true}
use Rattle.icu_frozen_sets.specs.FrozenWords.{bit_in}
use Rattle.icu_frozen_sets.proofs.ranges.contains_all.Given as goal

abbrev pub invariant-loop-next : goal.invariant-loop-next
invariant-loop-next l = record {
  order : l.start ≤ l.next;
  ones : (c : ℕ) → l.start ≤ c → c < l.next → bit_in l.table c ≡ true;
}

abbrev pub decreases-loop-next : goal.decreases-loop-next
decreases-loop-next l = l.end - l.next
