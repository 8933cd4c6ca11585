use Rattle.std.proofs.Common.{◌≡◌, ℕ, ◌+◌, ◌-◌, ◌<◌, ◌≤◌, length, get_or}
use Rattle.icu_invlist.specs.InversionList.{IsValid}
use Rattle.icu_collections_c.proofs.set_queries.place_from.Given as goal

abbrev pub invariant-loop-low : goal.invariant-loop-low
invariant-loop-low l = record {
  least : l.from ≤ l.low;
  within : l.low ≤ length l.ends;
  size : l.size + l.from ≡ l.low + l.step;
  passed : IsValid l.ends → (k : ℕ) → l.from ≤ k → k < l.low → get_or l.ends k 0 ≤ l.c;
}

abbrev pub decreases-loop-low : goal.decreases-loop-low
decreases-loop-low l = length l.ends - l.low
