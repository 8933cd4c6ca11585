use Rattle.std.proofs.Common.{◌≤◌, length, take}
use Rattle.icu_char16trie_builder.specs.Inside.Cuts.{AllShare}
use Rattle.icu_char16trie_builder.proofs.arms.shared_len.Given as goal

abbrev pub invariant-loop-i : goal.invariant-loop-i
invariant-loop-i l = record {
  within : l.shared ≤ length l.units;
  few : l.shared ≤ l.most;
  share : AllShare l.depth l.shared l.units (take l.i l.entries);
}
