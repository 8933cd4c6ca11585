use Rattle.std.proofs.Common.{rules}
use Rattle.icu_trie_builder.proofs.MapLemmas.{made-numbers}
use Rattle.icu_trie_builder.proofs.map.blocks.Blocks.new.Goals as goal

pub returns : goal.returns
returns c = rw c.new-cells.ensures.items
    (made-numbers c.in_ok-mixed.mixed.items c.in_ok-places.places.items c.args.number (search rules) (search rules))
