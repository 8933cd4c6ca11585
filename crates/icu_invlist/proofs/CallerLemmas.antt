-- Lemmas on sets of code points that other crates may use.
--
-- The ranges of a valid list are ascending with gaps, are in the code space, and contain what the
-- set contains.
pub use Rattle.icu_invlist.proofs.HeldRanges.{ranges_apart, ranges_hold}
pub use Rattle.icu_invlist.proofs.MemberLemmas.{ranges_within}
-- The complement of a valid list.
pub use Rattle.icu_invlist.proofs.Complements.{complement_valid, complement-holds}
-- The empty list is the empty set.
pub use Rattle.icu_invlist.proofs.Parity.{holds-nil}
-- Two sets are equal if they contain the same code points, or if each is a subset of the other.
pub use Rattle.icu_invlist.proofs.EqualSets.{same_parts, same_sets}
-- How many members are below a number: of a set and its complement, and at a member.
pub use Rattle.icu_invlist.proofs.MemberCounts.{fewer_below, counts_of_complements, sizes_of_complements}
-- A set contains no number above the code space.
pub use Rattle.icu_invlist.proofs.PlaceLemmas.{not_past_limit}
-- Strings in JSON spell at most one list of boundaries.
pub use Rattle.icu_invlist.proofs.WrittenSets.{said_alone}
-- The items of a JSON array, as they are read.
pub use Rattle.icu_invlist.proofs.JsonLemmas.{list_of-items_view}
-- The loop of a span: whether what it found out about a character is what is wanted; the
-- characters that it has passed, by their offsets; and the same with an iterator over the
-- characters, from the start of the text or from its end.
pub use Rattle.icu_invlist.proofs.SpanLemmas.{is_unwanted, is_wanted}
pub use Rattle.icu_invlist.proofs.SpanLemmas.{front, passed_boundary, passed_ends, passed_more, passed_none, passed_stops, Passed}
pub use Rattle.icu_invlist.proofs.SpanLemmas.{span_past, span_room, span_start, span_stops, Spanned}
pub use Rattle.icu_invlist.proofs.SpanLemmas.{back_past, back_start, back_stops, SpannedBack}
