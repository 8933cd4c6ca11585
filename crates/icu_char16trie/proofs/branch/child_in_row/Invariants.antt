use Rattle.icu_zerovec.specs.Slice.{slice_values}
use Rattle.std.proofs.Common.{ℕ, ◌^◌, ◌<◌, Option}
use Rattle.icu_char16trie.specs.Steps.{InRow}
use Rattle.icu_char16trie.proofs.branch.child_in_row.Given as goal

-- If the entries that are left lead to a node, the row leads to it too.
abbrev pub invariant-loop-left : goal.invariant-loop-left
invariant-loop-left l = record {
  near : l.place < 2 ^ 63;
  leads : (r : Option ℕ) → InRow (slice_values l.units) l.unit l.place l.left r → InRow (slice_values l.units) l.unit l.row l.length r;
}

abbrev pub decreases-loop-left : goal.decreases-loop-left
decreases-loop-left l = l.left
