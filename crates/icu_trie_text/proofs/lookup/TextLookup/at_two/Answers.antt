-- The offset is the block's cell of the index.
use Rattle.std.proofs.Common.{◌∙◌, sym}
use Rattle.icu_trie.specs.View.{view_parts}
use Rattle.icu_trie_text.proofs.TwoByteLemmas.{two_bytes_are, two_bytes_inside}
use Rattle.icu_trie_text.proofs.lookup.TextLookup.at_two.Goals as goal

pub at-requires : goal.at-requires
at-requires g c =
    let lookup = c.args.self.now in
    rw (c.parts.ensures.values) (two_bytes_inside g.T.TrieValue.of_number (view_parts lookup.view) c.parts.ensures.whole lookup.two_bytes.now
    lookup.offsets c.args.block c.args.place c.from.result c.requires.block c.requires.place (c.from.ensures ∙ c.from_le_bytes-offset.ensures))

pub returns : goal.returns
returns g c =
    let lookup = c.args.self.now in
    sym (two_bytes_are g.T.TrieValue.of_number (view_parts lookup.view) c.parts.ensures.whole lookup.two_bytes.now
    lookup.offsets c.args.block c.args.place c.from.result c.requires.block c.requires.place (c.from.ensures ∙ c.from_le_bytes-offset.ensures)
    ∙ rw (c.parts.ensures.values) at c.at.ensures)
