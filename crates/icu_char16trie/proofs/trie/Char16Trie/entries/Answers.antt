use Rattle.std.proofs.Common.{[]}
use Rattle.icu_char16trie.specs.UnitMap.{after_all}
use Rattle.icu_char16trie.proofs.OneMap.{trie_ascends, trie_one}
use Rattle.icu_char16trie.proofs.trie.Char16Trie.entries.Goals as goal

pub returns-clause-to_come : goal.returns-clause-to_come
unfolding after_all
returns-clause-to_come c = λ m h. c.entries.ensures.to_come m [] (c.cursor.ensures.root m h)

pub returns-clause-map : goal.returns-clause-map
returns-clause-map c = λ m h. trie_ascends _ m h

pub returns-clause-one : goal.returns-clause-one
returns-clause-one c = λ m n h k. trie_one _ m n h k
