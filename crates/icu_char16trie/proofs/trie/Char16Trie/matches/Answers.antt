use Rattle.icu_char16trie.specs.Matches.{matches_of}
use Rattle.icu_char16trie.proofs.MatchLemmas.{drain_matches}
use Rattle.icu_char16trie.proofs.trie.Char16Trie.matches.Goals as goal

pub returns-clause-drained : goal.returns-clause-drained
returns-clause-drained c = λ m xs h d.
    drain_matches c.new.result xs m (matches_of m c.args.text.now) (c.new.ensures m (c.cursor.ensures.root m h)) d
