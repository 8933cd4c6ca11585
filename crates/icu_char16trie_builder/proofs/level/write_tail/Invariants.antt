use Rattle.std.proofs.Common.{◌+◌, ◌*◌, ◌-◌, ◌≤◌, [], ◌∷◌, length, reverse, drop}
use Rattle.icu_char16trie.specs.Grammar.{Holds}
use Rattle.icu_char16trie_builder.specs.Inside.Written.{Grew}
use Rattle.icu_char16trie_builder.proofs.level.write_tail.Given as goal

abbrev pub invariant-loop-left : goal.invariant-loop-left
invariant-loop-left l = record {
  within : l.left ≤ length l.units;
  node : Holds (reverse l.out.items) 0 ((drop l.left l.units, l.fn.value) ∷ []);
  grew : Grew (3 + 2 * (length l.units - l.left)) (reverse l.fn.out.items) (reverse l.out.items);
}

abbrev pub decreases-loop-left : goal.decreases-loop-left
decreases-loop-left l = l.left
