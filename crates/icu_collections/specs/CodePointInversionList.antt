-- The definitions of sets of code points: inversion lists, their members, their ranges, and
-- operations on them; the spans of a text by a frozen set, and its words.
pub use Rattle.icu_zerovec.specs.CodePoints.{code_point_limit}
pub use Rattle.icu_invlist.specs.InversionList.{IsValid, holds, is_odd}
unfoldable pub use Rattle.icu_invlist.specs.InversionList.{ends_up_to, members, members_below}
pub use Rattle.icu_invlist.specs.Changes.{Changes}
pub use Rattle.icu_invlist.specs.InversionList.{Acts, HoldsAll, IsSubset, between, both, either, one_of, without}
pub use Rattle.icu_invlist.specs.InversionList.{AreApart, IsOfCodePoints, StartsBehind, in_ranges, ranges_of}
pub use Rattle.icu_invlist.specs.InversionList.{characters, complement_of, toggle_back, toggle_front}
pub use Rattle.icu_invlist.specs.NamedCodePoints.{IsUnionOf, adds, end_of_included, end_of_inclusive, is_used_up, open_end, open_start, range_of_numbers}
pub use Rattle.icu_invlist.specs.Refusals.{IsRefusedList, IsRefusedRange, IsRefusedSlice}
pub use Rattle.icu_frozen_sets.specs.FrozenView.{view_words}
pub use Rattle.icu_frozen_sets.specs.FrozenWords.{IsFrozenOf, bit_in, is_held, offset_at, offset_words, place_in}
pub use Rattle.icu_frozen_sets.specs.LongestSpans.{AllHeld, IsByteOf, IsHeldByte, IsLossySpan, IsLossySpanBack, IsSpan, IsSpanBack, unit_count, unit_span}
pub use Rattle.icu_frozen_sets.specs.Spans.{AreAlternating, AreSpans, GivesSpan, IsFirstSpan, IsOfOneKind, TextToCut, front_of}
pub use Rattle.icu_frozen_sets.specs.TextFronts.{IsTextUpTo}
