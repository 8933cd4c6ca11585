-- Bytes that are borrowed or owned.
use Rattle.std.specs.Prelude.{ℕ, List}
use Rattle.icu_zerovec.specs.declared.vec.Store.{Store}
use Rattle.icu_zerovec.specs.declared.vec.Store.TheVariants.{Borrowed, Owned}

-- The bytes of either variant.
abbrev pub bytes_of : Store → List ℕ
bytes_of (Borrowed bytes) = bytes.now
bytes_of (Owned bytes) = bytes.items
