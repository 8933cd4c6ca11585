use Rattle.std.proofs.Common.{◌∙◌, sym, ap, get_or, false, [], replicate, arith}
use Rattle.std.proofs.lemmas.List.{get_or_read}
use Rattle.icu_trie_builder.proofs.MapLemmas.{holds-one, holds-cells}
use Rattle.icu_trie_builder.proofs.map.blocks.Blocks.block.Goals as goal

pub returns-then-index : goal.returns-then-index
returns-then-index c = let b = c.self.inside in let sound = c.self.invariant in
    let own = sym (get_or_read b.mixed.items _ _ (omega (arith, sound.all)) c.index.ensures false) ∙ c.if-index.true in
    let at = get_or_read b.places.items _ _ (omega (arith, sound.same)) c.index-then-index.ensures 0 in
    rw (← c.self.view_is) (get_or_read b.cells.items _ _ (rw at (sound.inside _ own)) c.index-then-index-2.ensures []
    ∙ ap (λ x. get_or b.cells.items x []) at
    ∙ holds-cells b.mixed.items b.places.items b.cells.items c.args.number c.requires sound own)

pub returns : goal.returns
returns c = let b = c.self.inside in let sound = c.self.invariant in
    let whole = sym (get_or_read b.mixed.items _ _ (omega (arith, sound.all)) c.index.ensures false) ∙ c.if-index.false in
    let held = get_or_read b.places.items _ _ (omega (arith, sound.same)) c.index-2.ensures 0 in
    rw (← c.self.view_is) (ap (λ x. replicate 16 x) held
    ∙ holds-one b.mixed.items b.places.items b.cells.items c.args.number c.requires whole)
