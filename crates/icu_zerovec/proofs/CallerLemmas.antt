-- Lemmas on packed vectors that other crates may use: how many values bytes have, the value at an
-- index, the result of a conversion that keeps the bytes, and that each type of this crate has one
-- encoding of each value.
pub use Rattle.icu_zerovec.proofs.CanonicalLemmas.{canonical_u8, canonical_u16, canonical_u32, canonical_i8, canonical_i16, canonical_i32, canonical_point, canonical_char}
pub use Rattle.icu_zerovec.proofs.CellsLemmas.{IsPacked-flat_map, get-values_of, length-values_of, pack-get, values_of-flat_map}
pub use Rattle.icu_zerovec.proofs.Converted.{converted_err, converted_ok}
pub use Rattle.icu_zerovec.proofs.DrainLemmas.{drained_list}
-- How a reader that stops at its first fault continues from item to item.
pub use Rattle.icu_zerovec.proofs.FirstFaultLemmas.{at_end, at_start, goes_on, stops, with_front}
