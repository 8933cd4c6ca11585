use Rattle.std.proofs.Common.{◌+◌, ◌-◌, ◌≤◌, length}
use Rattle.icu_frozen_sets.specs.FrozenWords.{is_held}
use Rattle.icu_frozen_sets.proofs.ThreeByteLemmas.{Walks}
use Rattle.icu_frozen_sets.proofs.same_length.skip_of_size.Given as goal

abbrev pub invariant-loop-rest : goal.invariant-loop-rest
invariant-loop-rest g l = record {
  walks : Walks (Unit {0}) (is_held l.table) l.held l.bytes l.start l.rest;
  far : l.start + l.far ≤ length l.bytes → length l.bytes - length l.rest + l.far ≤ length l.bytes;
}

abbrev pub decreases-loop-rest : goal.decreases-loop-rest
decreases-loop-rest g l = length l.rest
