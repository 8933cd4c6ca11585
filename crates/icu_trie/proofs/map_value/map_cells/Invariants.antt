use Rattle.std.proofs.Common.{◌≡◌, ◌+◌, List, ◌++◌, length, Option}
use Rattle.icu_zerovec.specs.Slice.{slice_values}
use Rattle.icu_trie.specs.MappedTrie.{CallsInTurn}
use Rattle.icu_trie.proofs.map_value.map_cells.Given as goal

-- The calls to come follow the calls so far.
abbrev pub invariant-loop-value : goal.invariant-loop-value
invariant-loop-value g l = record {
  callable : goal.F-IsAlwaysCallable g l.f;
  onward : (zs : List g.row.P.Denot) (refusal : Option g.row.E.Denot) (last : g.row.F.Denot)
      → CallsInTurn (goal.F-step g) l.f l.value-iterator zs refusal last
      → CallsInTurn (goal.F-step g) l.fn.f (slice_values l.fn.values) (l.answers.items ++ zs) refusal last;
  count : length l.answers.items + length l.value-iterator ≡ length (slice_values l.fn.values);
}
