-- The types that have exactly one encoding of each value, so that values determine bytes.
use Rattle.std.specs.Prelude.{◌≡◌, ℕ, List, Option, Some, length}
use Rattle.icu_zerovec.specs.PackedBytes.{AreBytes}

-- Each value has one encoding: if bytes unpack to a value, the value packs to those bytes.
pub record IsCanonical {T : Type 0} (pack : T → List ℕ) (unpack : List ℕ → Option T)
    (width : ℕ) : Type 0 where
  pub packs : (b : List ℕ) (x : T) → length b ≡ width → AreBytes b → unpack b ≡ Some x → pack x ≡ b
