use Rattle.std.proofs.Common.{◌≡◌, refl, arith, sym, ap, ◌∙◌, ◌/◌, get_or, false, true, [], rules}
use Rattle.std.proofs.lemmas.List.{get_or_read}
use Rattle.icu_trie_builder.proofs.MapLemmas.{set-written, fill-written}
use Rattle.icu_trie_builder.proofs.map.blocks.Blocks.write_in_block.Goals as goal

pub returns-then-not-index-clause-written : goal.returns-then-not-index-clause-written
returns-then-not-index-clause-written c = let b = c.self.inside in let sound = c.self.invariant in
    let not : c.index.result.now ≡ false = search rules in
    let whole = sym (get_or_read b.mixed.items _ _ (omega (arith, sound.all)) c.index.ensures false) ∙ not in
    rw (← c.self.view_is) (set-written b.mixed.items b.places.items b.cells.items sound (c.args.start / 16) c.args.number
    c.args.start c.args.end (omega arith) whole refl c.requires.range c.requires.within
    (rw (← c.self.view_is) at c.requires.first) (rw (← c.self.view_is) at c.requires.last))

pub returns-clause-written : goal.returns-clause-written
returns-clause-written c = let b = c.self.inside in let sound = c.self.invariant in
    let asked : c.index.result.now ≡ true = search rules in
    let own = sym (get_or_read b.mixed.items _ _ (omega (arith, sound.all)) c.index.ensures false) ∙ asked in
    let at = get_or_read b.places.items _ _ (omega (arith, sound.same)) c.index-2.ensures 0 in
    let old = get_or_read b.cells.items _ _ (rw at (sound.inside _ own)) c.index_mut-2.ensures.value []
    ∙ ap (λ x. get_or b.cells.items x []) at in
    rw (← c.self.view_is, at) (fill-written b.mixed.items b.places.items b.cells.items sound c.fill_range.new.cells
    c.args.start c.args.end c.args.number own c.requires.range c.requires.within (rw old at c.fill_range.ensures) c.requires.all)
