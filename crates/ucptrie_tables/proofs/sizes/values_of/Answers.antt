use Rattle.std.proofs.Common.{◌≡◌, sym, ◌∙◌, arith, length}
use Rattle.icu_trie.specs.Parts.{trie_value}
use Rattle.ucptrie_tables.proofs.SizeLemmas.{values-filled}
use Rattle.ucptrie_tables.proofs.sizes.values_of.Goals as goal

pub returns-clause-values : goal.returns-clause-values
returns-clause-values c =
    let end = c.stored_values-end in
    let at = c.loop-c.invariant in
    let size : length c.loop-c.values.items ≡ end.result = omega (arith, at.items, c.loop-c-test.false, c.loop-c.auto.c-end) in
    λ u within. values-filled (trie_value c.args.trie.now) 0x110000 end.result _ c.get32-2.result c.loop-c.values.items _ size
    end.ensures.within (omega (arith, at.len, c.loop-c.auto.c-end)) c.in_ok-resize.ensures.items
    (λ u low. at.values u (omega (arith, low, c.loop-c-test.false)))
    (λ u from below. end.ensures.high u from below ∙ sym c.get32-2.ensures) u (omega (arith, within))
