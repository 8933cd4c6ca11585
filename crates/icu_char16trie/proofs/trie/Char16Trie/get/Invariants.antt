use Rattle.std.proofs.Common.{◌-◌, ◌≤◌, length, take}
use Rattle.icu_char16trie.specs.Steps.{StepsAlong}
use Rattle.icu_char16trie.specs.declared.place.Place.TheVariants.{Node}
use Rattle.icu_char16trie.proofs.trie.Char16Trie.get.Given as goal

-- The units so far lead to the node.
abbrev pub invariant-loop-passed : goal.invariant-loop-passed
invariant-loop-passed l = record {
  within : l.passed ≤ length l.key;
  steps : StepsAlong l.fn.self (Node 0) (take l.passed l.key) (Node l.node);
}

abbrev pub decreases-loop-passed : goal.decreases-loop-passed
decreases-loop-passed l = length l.key - l.passed
