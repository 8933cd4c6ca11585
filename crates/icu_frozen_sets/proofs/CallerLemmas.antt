-- Lemmas on frozen sets that other crates may use.
--
-- An iterator over spans yields the spans of the text.
pub use Rattle.icu_frozen_sets.proofs.TextPieces.{spans_of_drained}
-- A span that is not empty starts, or ends, with a character, and so does a text.
pub use Rattle.icu_frozen_sets.proofs.LongestSpanLemmas.{begins, ends, text_ends, text_starts}
-- A span of a text ends at a character boundary.
pub use Rattle.icu_frozen_sets.proofs.LongestSpanLemmas.{text_span, text_span_back}
-- Bytes have a longest prefix that is UTF-8.
pub use Rattle.icu_frozen_sets.proofs.TextFrontLemmas.{text_front}
-- How many boundaries are not above a number, and that a set has no more members than there are numbers.
pub use Rattle.icu_frozen_sets.proofs.SetLemmas.{IsNonDecreasingBy-strictly, count-at, members_below-le}
