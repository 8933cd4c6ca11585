use Rattle.icu_zerovec.specs.Slice.{slice_values}
use Rattle.std.proofs.Common.{◌≡◌, ℕ, ◌+◌, ◌<◌, slice_get}
use Rattle.icu_char16trie.proofs.dictionary.begins_run.Given as goal

-- The units so far are the same.
abbrev pub invariant-loop-i : goal.invariant-loop-i
invariant-loop-i l = (k : ℕ) → k < l.i → slice_get (slice_values l.units) (l.place + k) ≡ slice_get l.text k
