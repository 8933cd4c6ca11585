-- The bytes are those of the values so far.
use Rattle.std.proofs.Common.{◌≡◌}
use Rattle.std.specs.List.{flat_map, All}
use Rattle.icu_zerovec.proofs.cells.pack.Given as goal

abbrev pub invariant-loop-value : goal.invariant-loop-value
invariant-loop-value g l = record {
  bytes : l.bytes.items ≡ flat_map g.T.AsULE.pack l.yielded;
  values : All g.T.AsULE.is_value l.yielded;
}
