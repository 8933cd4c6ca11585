-- The value at the position is that of the code point.
use Rattle.std.proofs.lemmas.Bool.{lt-ltb}
use Rattle.icu_trie_core.specs.Format.{fast_limit}
use Rattle.icu_trie.specs.View.{view_parts}
use Rattle.icu_trie.proofs.Positions.{found_at}
use Rattle.icu_trie.proofs.view.TrieView.fast_value_by_type.Goals as goal

pub returns-in-Some : goal.returns-in-Some
returns-in-Some g c =
    rw (lt-ltb c.args.c (fast_limit c.args.trie_type) c.in-Some.ensures.limit)
    (found_at (view_parts c.args.self.now) c.args.c c.in-Some.place c.at.result c.in-Some.ensures.place c.at.ensures)
