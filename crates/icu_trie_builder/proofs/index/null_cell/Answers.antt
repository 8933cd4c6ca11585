use Rattle.std.proofs.Common.{inl, inr, refl}
use Rattle.icu_trie_builder.specs.Inside.Index.IndexParts.{IsNullCell}
use Rattle.icu_trie_builder.proofs.index.null_cell.Goals as goal

pub returns-in-Some : goal.returns-in-Some
unfolding IsNullCell
returns-in-Some c = inl (c.in-Some.number, c.in-Some.ensures.some.0, c.in-Some.ensures.some.1, refl)

pub returns-in-None : goal.returns-in-None
unfolding IsNullCell
returns-in-None c = inr (refl, c.in-None.ensures.none refl)
