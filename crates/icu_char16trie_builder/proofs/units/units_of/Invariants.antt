use Rattle.std.proofs.Common.{◌+◌, ◌≤◌, length, reverse}
use Rattle.icu_char16trie_builder.specs.Inside.Cuts.{cut, room}
use Rattle.icu_char16trie_builder.specs.Inside.Steps.{Leads, cost}
use Rattle.icu_char16trie_builder.proofs.units.units_of.Given as goal

abbrev pub invariant-loop-step : goal.invariant-loop-step
invariant-loop-step l = record {
  spent : length l.out.items + cost l.steps.items ≤ room 0 l.fn.entries;
  leads : Leads (reverse l.out.items) (reverse l.places.items) l.known (reverse l.steps.items) (cut 0 l.fn.entries);
}

abbrev pub decreases-loop-step : goal.decreases-loop-step
decreases-loop-step l = cost l.steps.items
