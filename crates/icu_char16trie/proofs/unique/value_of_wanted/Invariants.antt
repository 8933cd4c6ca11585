use Rattle.icu_zerovec.specs.Slice.{slice_values}
use Rattle.icu_char16trie.proofs.ValueLemmas.{RootRests}
use Rattle.icu_char16trie.proofs.unique.value_of_wanted.Given as goal

-- The value found so far and the nodes that are marked from here on have the value of the root's
-- entries.
abbrev pub invariant-loop-place : goal.invariant-loop-place
invariant-loop-place l = RootRests (slice_values l.units) l.root l.found l.wanted l.place
