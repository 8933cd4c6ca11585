-- Lemmas on sets of code points and strings that other crates may use.
--
-- Equality decides whether two sets are the same, and equal sets contain the same texts.
pub use Rattle.icu_text_sets.proofs.EqualSets.{equal_sets_hold_alike, sets_decide}
