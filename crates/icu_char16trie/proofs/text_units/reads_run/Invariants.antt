use Rattle.icu_zerovec.specs.Slice.{slice_values}
use Rattle.std.proofs.Common.{◌≡◌, ℕ, ◌+◌, ◌<◌, ◌≤◌, ◌^◌, length, drop, slice_get}
use Rattle.icu_char16trie.specs.Inside.Texts.{AreLast, AreTextUnits, units_left}
use Rattle.icu_char16trie.proofs.text_units.reads_run.Given as goal

-- The units so far are the same, and have been read.
abbrev pub invariant-loop-i : goal.invariant-loop-i
invariant-loop-i l = record {
  within : l.i ≤ length (units_left l.initial.text);
  same : (k : ℕ) → k < l.i → slice_get (slice_values l.units) (l.place + k) ≡ slice_get (units_left l.initial.text) k;
  near : l.place + l.i < 2 ^ 63;
  left : units_left l.text ≡ drop l.i (units_left l.initial.text);
  units : AreTextUnits l.text;
  last : AreLast l.text l.initial.text;
}
