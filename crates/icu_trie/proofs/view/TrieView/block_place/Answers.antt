-- The cell of the fast index is there, and it names a block inside the data.
use Rattle.std.proofs.Common.{◌+◌, ◌*◌, arith, refl}
use Rattle.icu_trie.specs.View.{view_parts}
use Rattle.icu_trie.proofs.Positions.{block_inside_data, block_position, cell_below, no_cell_below, whole_of}
use Rattle.icu_trie.proofs.view.TrieView.block_place.Goals as goal

pub get_likely_below-requires : goal.get_likely_below-requires
get_likely_below-requires g c =
    let t = view_parts c.args.self.now in
    let whole = whole_of g.T.TrieValue.of_number t.header t.index t.values c.args.self.now.sound in
    rw (c.requires.blocks) whole.0

pub returns-in-None-clause-past : goal.returns-in-None-clause-past
returns-in-None-clause-past g c =
    let t = view_parts c.args.self.now in
    let whole = whole_of g.T.TrieValue.of_number t.header t.index t.values c.args.self.now.sound in
    no_cell_below t.index c.args.blocks c.args.block (rw (c.requires.blocks) whole.0) c.in-None.ensures

pub returns-in-Some-clause-past : goal.returns-in-Some-clause-past
returns-in-Some-clause-past g c =
    let t = view_parts c.args.self.now in
    (cell_below t.index c.args.blocks c.args.block c.in-Some.offset c.in-Some.ensures).0

pub returns-in-Some-clause-inside : goal.returns-in-Some-clause-inside
returns-in-Some-clause-inside g c =
    let t = view_parts c.args.self.now in
    let cell = cell_below t.index c.args.blocks c.args.block c.in-Some.offset c.in-Some.ensures in
    let inside = block_inside_data g.T.TrieValue.of_number t c.args.self.now.sound c.args.block c.in-Some.offset
    (rw (← c.requires.blocks) cell.0) cell.1 in
    omega (arith, inside, c.requires.place)

pub returns-in-Some-clause-place : goal.returns-in-Some-clause-place
returns-in-Some-clause-place g c =
    let t = view_parts c.args.self.now in
    let cell = cell_below t.index c.args.blocks c.args.block c.in-Some.offset c.in-Some.ensures in
    block_position t (c.args.block * 64 + c.args.place) c.args.block c.in-Some.offset c.args.place refl c.requires.place
    (rw (← c.requires.blocks) cell.0) cell.1
