use Rattle.std.proofs.Common.{◌≡◌, ◌<◌, ℕ, Some, get_or, slice_get}
use Rattle.icu_trie_text.proofs.copy_parts.copy_sixteen.Given as goal

abbrev pub invariant-loop-k : goal.invariant-loop-k
invariant-loop-k g l = (k : ℕ) → k < l.k → g.V.PartValues.gives l.trie (Some (get_or l.ascii k 0)) ≡ slice_get l.target k
