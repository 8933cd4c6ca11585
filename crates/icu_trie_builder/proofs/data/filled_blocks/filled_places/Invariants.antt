use Rattle.icu_trie_builder.specs.Inside.FilledBlocks.{AreFilledPlaces}
use Rattle.icu_trie_builder.proofs.data.filled_blocks.filled_places.Given as goal

abbrev pub invariant-loop-number : goal.invariant-loop-number
invariant-loop-number l = AreFilledPlaces l.cells l.places.items
