-- The definitions of packed vectors: values and the bytes that store them.
pub use Rattle.icu_zerovec.specs.Canonical.{IsCanonical}
pub use Rattle.icu_zerovec.specs.Cells.{IsCell, IsConverted, IsFault, IsFirstRefusedCell, IsPacked, cell, one_write, same_bytes, values_from}
unfoldable pub use Rattle.icu_zerovec.specs.Cells.{values_of}
pub use Rattle.icu_zerovec.specs.Slice.{slice_values}
-- For a user-defined type: bytes of numbers, and the laws of the types in the crate.
pub use Rattle.icu_zerovec.specs.PackedBytes.{AreBytes, if_passes, low_bytes, number_of, scalar_of}
pub use Rattle.icu_zerovec.specs.PackedLaws.{low_bytes-small, number_of-1, number_of-2, number_of-3, number_of-4, scalar-3, signed-1, signed-2, signed-4}
