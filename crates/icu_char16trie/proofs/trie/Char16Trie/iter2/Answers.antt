use Rattle.icu_char16trie.proofs.OneMap.{trie_one, trie_ascends}
use Rattle.icu_char16trie.proofs.Runs.{drain_gives}
use Rattle.icu_char16trie.proofs.trie.Char16Trie.iter2.Goals as goal

pub returns-clause-map : goal.returns-clause-map
returns-clause-map c = λ m h. trie_ascends _ m h

pub returns-clause-one : goal.returns-clause-one
returns-clause-one c = λ m m' h h'. trie_one _ m m' h h'

pub returns-clause-drained : goal.returns-clause-drained
returns-clause-drained c = λ m xs h d. drain_gives _ xs m (c.new.ensures.left m (rw (← c.self.view_is, ← c.as_slice.ensures) at h)) d
