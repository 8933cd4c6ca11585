use Rattle.std.proofs.Common.{◌≢◌, ℕ, ◌<◌, get_or}
use Rattle.icu_trie_builder.proofs.data.filled_blocks.shared_place.Given as goal

abbrev pub invariant-loop-place : goal.invariant-loop-place
invariant-loop-place l = (m : ℕ) → m < l.place-index → get_or l.cells (get_or l.places m 0) 0 ≢ get_or l.cells l.at 0
