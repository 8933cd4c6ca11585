use Rattle.std.proofs.Common.{◌≡◌, ℕ, ◌<◌, ◌≤◌, ◌⊎◌, get_or}
use Rattle.icu_trie_builder.specs.Inside.FilledBlocks.{IsSharedPlace}
use Rattle.icu_trie_builder.proofs.data.filled_blocks.share_filled.Given as goal

abbrev pub invariant-loop-offset : goal.invariant-loop-offset
invariant-loop-offset l = record {
  done : (j : ℕ) → j < l.offset-index → IsSharedPlace l.cells l.places (get_or l.initial.small j 0) (get_or l.small j 0);
  after : (j : ℕ) → l.offset-index ≤ j → get_or l.small j 0 ≡ get_or l.initial.small j 0;
  last : (l.from ≡ 0xffffffff) ⊎ IsSharedPlace l.cells l.places l.from l.to;
}
