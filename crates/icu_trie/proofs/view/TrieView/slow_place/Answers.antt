-- The data have a high value.
use Rattle.std.proofs.Common.{◌≤◌, length, arith}
use Rattle.icu_trie.specs.View.{view_parts}
use Rattle.icu_trie.proofs.Positions.{values_at_least}
use Rattle.icu_trie.proofs.view.TrieView.slow_place.Goals as goal

pub overflow_sub-result : goal.overflow_sub-result
overflow_sub-result g c =
    let t = view_parts c.args.self.now in
    let least : 64 ≤ length t.values = values_at_least g.T.TrieValue.of_number t c.args.self.now.sound in
    omega (arith, least, c.len.ensures.len)
