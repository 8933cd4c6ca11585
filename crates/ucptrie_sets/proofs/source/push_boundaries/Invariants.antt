use Rattle.std.proofs.Common.{◌+◌, ◌<◌, ◌≡◌, ◌++◌, string_bytes}
use Prim.Native.Nat.{◌^◌}
use Rattle.ucptrie_sets.specs.SetSource.{cells_from}
use Rattle.ucptrie_sets.proofs.source.push_boundaries.Given as goal

-- the text so far and the boundaries that are left give the whole
abbrev pub invariant-loop-i : goal.invariant-loop-i
invariant-loop-i l = record {
  fits : l.i + goal.iterator-loop-i.remaining l.boundary-iterator < 2 ^ 64;
  whole : string_bytes l.text ++ cells_from l.i l.boundary-iterator ≡ string_bytes l.initial.text ++ cells_from 0 l.fn.set;
}
