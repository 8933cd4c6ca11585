-- The position is inside the data.
use Rattle.std.proofs.Common.{◌+◌, ◌*◌, arith, refl}
use Rattle.icu_trie.specs.View.{view_parts}
use Rattle.icu_trie.proofs.Positions.{block_inside_data, block_position, found_at}
use Rattle.icu_trie.proofs.view.TrieView.value_in_fast_block.Goals as goal

pub at-requires : goal.at-requires
at-requires g c =
    let t = view_parts c.args.self.now in
    let inside = block_inside_data g.T.TrieValue.of_number t c.args.self.now.sound c.args.block c.at-offset.result
    c.requires.block c.at-offset.ensures in
    omega (arith, inside, c.requires.place)

pub returns : goal.returns
returns g c =
    let t = view_parts c.args.self.now in
    found_at t (c.args.block * 64 + c.args.place) (c.at-offset.result + c.args.place) c.at.result
    (block_position t (c.args.block * 64 + c.args.place) c.args.block c.at-offset.result c.args.place refl c.requires.place c.requires.block c.at-offset.ensures)
    c.at.ensures
