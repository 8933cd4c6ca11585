use Rattle.std.proofs.Common.{◌-◌, ◌≤◌, length, drop}
use Rattle.icu_char16trie_builder.specs.Inside.Cuts.{ArmsSoFar}
use Rattle.icu_char16trie_builder.proofs.arms.arms_of.Given as goal

abbrev pub invariant-loop-start : goal.invariant-loop-start
invariant-loop-start l = record {
  within : l.start ≤ length l.entries;
  so_far : ArmsSoFar l.depth l.entries (drop l.start l.entries) l.arms.items;
}

abbrev pub decreases-loop-start : goal.decreases-loop-start
decreases-loop-start l = length l.entries - l.start
