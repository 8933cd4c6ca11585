use Rattle.std.proofs.Common.{◌≡◌, ℕ, ◌≤◌, cond, get_or, length}
use Rattle.icu_invlist.specs.InversionList.{between}
use Rattle.icu_frozen_sets.proofs.bits.fill.Given as goal

abbrev pub invariant-loop-k : goal.invariant-loop-k
invariant-loop-k l = record {
  order : l.from ≤ l.k;
  len : length l.words ≡ length l.initial.words;
  all : (k : ℕ) → get_or l.words k 0 ≡ cond (between l.from l.k k) l.word (get_or l.initial.words k 0);
}
