use Rattle.std.proofs.Common.{rules, refl, arith, inl, inr}
use Rattle.icu_trie_builder.specs.Inside.FilledBlocks.{IsSharedPlace}
use Rattle.icu_trie_builder.proofs.data.filled_blocks.shared_place.Goals as goal

pub returns-then-not-is_filled : goal.returns-then-not-is_filled
unfolding IsSharedPlace
returns-then-not-is_filled c = inr (refl, λ f. absurd (c.is_filled.ensures.no (search rules) _ f))

pub returns-then-cells-place : goal.returns-then-cells-place
unfolding IsSharedPlace
returns-then-cells-place c =
    inl (
      c.is_filled.ensures.yes (search rules),
      (c.loop-place.place-index, c.loop-place-test.true, refl, c.if-cells-place.true, c.loop-place.invariant),
    )

pub returns : goal.returns
unfolding IsSharedPlace
returns c = inr (refl, λ f m l. c.loop-place.invariant m (omega (arith, l, c.loop-place-test.false, c.loop-place.auto)))
