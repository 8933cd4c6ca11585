use Rattle.std.proofs.Common.{◌≡◌, length, arith, rules}
use Rattle.std.proofs.lemmas.List.{get_or_read}
use Rattle.icu_trie_builder.proofs.MapLemmas.{mix-same}
use Rattle.icu_trie_builder.proofs.map.blocks.Blocks.mix.Goals as goal

pub returns-clause-same : goal.returns-clause-same
returns-clause-same c = let b = c.self.inside in
    let place : c.in-Ok.place ≡ length b.cells.items = search rules in
    let held = get_or_read b.places.items _ _ (omega (arith, c.self.invariant.same)) c.index-2.ensures 0 in
    rw (← c.self.view_is, c.in_ok-push_block.ensures.ok, place, held)
    (mix-same b.mixed.items b.places.items b.cells.items c.self.invariant c.args.number c.requires (search rules))
