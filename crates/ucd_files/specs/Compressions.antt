-- Compressed files, by the bytes that they start with.
use Rattle.std.specs.Prelude.{ℕ, ◌≡◌, ◌<◌, ◌⊎◌, IsTrue, List, [], ◌∷◌, ◌++◌, nat_eq, codes, length, slice_index, take}
use Rattle.std.specs.List.{starts_with}
use Rattle.ucd_files.specs.declared.compression.Compression.{Compression}
use Rattle.ucd_files.specs.declared.compression.Compression.TheVariants.{Bzip2, Gzip, Xz, Zip, Zstd}

-- Bytes that start as a file of bzip2: with `BZh`, a level from 1 to 9, and the first byte of a block
-- (0x31) or of the end of a stream (0x17). A text may start with `BZh` too.
abbrev pub IsBzip2 : List ℕ → Type 0
IsBzip2 bytes =
    (4 < length bytes) × (take 3 bytes ≡ codes "BZh")
    × (48 < slice_index bytes 3) × (slice_index bytes 3 < 58)
    × ((slice_index bytes 4 ≡ 0x31) ⊎ (slice_index bytes 4 ≡ 0x17))

-- Bytes that start as a file that is compressed so: with the identification of RFC 1952 (gzip), the
-- magic bytes of a stream of xz, the signature of a zip archive's first file, or the magic number of
-- RFC 8878 (zstd).
abbrev pub StartsAs : Compression → List ℕ → Type 0
StartsAs Bzip2 bytes = IsBzip2 bytes
StartsAs Gzip bytes = IsTrue (starts_with nat_eq bytes (0x1F ∷ 0x8B ∷ []))
StartsAs Xz bytes = IsTrue (starts_with nat_eq bytes (0xFD ∷ codes "7zXZ" ++ 0 ∷ []))
StartsAs Zip bytes = IsTrue (starts_with nat_eq bytes (codes "PK" ++ 3 ∷ 4 ∷ []))
StartsAs Zstd bytes = IsTrue (starts_with nat_eq bytes (0x28 ∷ 0xB5 ∷ 0x2F ∷ 0xFD ∷ []))
