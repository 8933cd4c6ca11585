-- The value at the position is that of the code point.
use Rattle.std.proofs.Common.{◌+◌, ◌*◌, sym}
use Rattle.icu_trie.specs.View.{view_parts}
use Rattle.icu_trie.proofs.Positions.{found_at}
use Rattle.icu_trie.proofs.view.TrieView.value_in_block.Goals as goal

pub returns-in-Some : goal.returns-in-Some
returns-in-Some g c =
    sym (found_at (view_parts c.args.self.now) (c.args.block * 64 + c.args.place) c.in-Some.at c.at.result c.in-Some.ensures.place c.at.ensures)
