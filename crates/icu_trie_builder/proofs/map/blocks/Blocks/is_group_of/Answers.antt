use Rattle.std.proofs.Common.{arith, drop, ◌-◌, ◌+◌}
use Rattle.std.proofs.lemmas.List.{length-take-le, length-drop}
use Rattle.icu_trie_builder.proofs.MapLemmas.{number-in-part}
use Rattle.icu_trie_builder.proofs.map.blocks.Blocks.is_group_of.Goals as goal

pub returns : goal.returns
returns c = let b = c.self.inside in let first = c.args.first in let most = first + 64 - first in
    let long = length-take-le most (drop first b.places.items)
    (omega (arith, length-drop first b.places.items, c.self.invariant.same, c.requires)) in
    rw (← c.self.view_is) (λ t k low high. number-in-part b.mixed.items b.places.items b.cells.items first most 64 k
    c.args.number (omega arith) (omega (arith, c.requires))
    (λ i l. (rw (c.deref.ensures.value, c.deref-2.ensures.value) at (c.are_one.ensures t)) i (omega (arith, l, long))) low high)
