use Rattle.std.proofs.Common.{◌+◌, ◌-◌, ◌≤◌, length}
use Rattle.icu_char16trie.specs.Matches.{HasValueAlong}
use Rattle.icu_frozen_sets.specs.FrozenWords.{is_held}
use Rattle.icu_text_sets.specs.TextSet.{TextSet}
use Rattle.icu_collections_c.specs.TextSets.{IsMember, IsStored, IsTextOf}
use Rattle.icu_collections_c.specs.TextSpans.{IsStep}
use Rattle.icu_collections_c.specs.UnitTries.{units_of}
use Rattle.icu_collections_c.proofs.TextSpanLemmas.{IsPassed}
use Rattle.icu_collections_c.proofs.text_spans.span_size.Given as goal

-- The bytes before `end` are steps, and the next one has `size` bytes.
abbrev pub invariant-loop-size : goal.invariant-loop-size
invariant-loop-size l = record {
  within : l.end + l.size ≤ length l.bytes;
  set : (set : TextSet) → IsStored l.table (units_of l.units) set → IsPassed (IsStep (IsTextOf set) l.held) l.bytes l.end l.size;
  exact : IsPassed (IsStep (IsMember (is_held l.table) (HasValueAlong (units_of l.units))) l.held) l.bytes l.end l.size;
}

abbrev pub decreases-loop-size : goal.decreases-loop-size
decreases-loop-size l = length l.bytes - l.end
