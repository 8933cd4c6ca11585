use Rattle.icu_zerovec.specs.Slice.{slice_values}
use Rattle.std.proofs.Common.{ℕ, ◌^◌, ◌<◌, Option}
use Rattle.icu_char16trie.specs.Steps.{InPart}
use Rattle.icu_char16trie.proofs.branch.child_in_part.Given as goal

-- If the smaller part leads to a node, the whole one leads to it too.
abbrev pub invariant-loop-left : goal.invariant-loop-left
invariant-loop-left l = record {
  near : l.place < 2 ^ 63;
  leads : (r : Option ℕ) → InPart (slice_values l.units) l.unit l.place l.left r → InPart (slice_values l.units) l.unit l.part l.length r;
}

abbrev pub decreases-loop-left : goal.decreases-loop-left
decreases-loop-left l = l.left
