-- Writes to a map from code points: which are accepted, what each covers, and the result of a list
-- of them.
use Rattle.std.specs.Prelude.{ℕ, Bool, ◌&&◌, nat_le, List, [], ◌∷◌, Option, Some, None, if◌then◌else◌, unwrap_or}
use Rattle.std.specs.Option.{option_or}
use Rattle.std.specs.Range.{range_inclusive_start, range_inclusive_end}
use Rattle.icu_trie_builder.specs.declared.writes.Write.{Write}
use Rattle.icu_trie_builder.specs.declared.writes.Write.TheVariants.{One, Range}

module _ {T : Type 0} where
  -- The first code point of a write.
  abbrev pub write_first : Write T → ℕ
  write_first (One c v) = c
  write_first (Range r v) = range_inclusive_start r

  -- The last code point of a write (inclusive).
  abbrev pub write_last : Write T → ℕ
  write_last (One c v) = c
  write_last (Range r v) = range_inclusive_end r

  -- The value of a write.
  abbrev pub write_value : Write T → T
  write_value (One c v) = v
  write_value (Range r v) = v

  -- An accepted write: its range is not reversed, and it starts at or below 0x10FFFF.
  abbrev pub is_accepted : Write T → Bool
  is_accepted w = nat_le (write_first w) (write_last w) && nat_le (write_first w) 0x10FFFF

  -- True if the write is accepted and covers c.
  abbrev pub covers : Write T → ℕ → Bool
  covers w c = is_accepted w && (nat_le (write_first w) c && nat_le c (write_last w))

  -- The value of the last of the writes that cover c, if there is one.
  abbrev pub last_written : List (Write T) → ℕ → Option T
  last_written [] c = None
  last_written (w ∷ ws) c =
      option_or (last_written ws c) (if covers w c then Some (write_value w) else None)

  -- The value of c after the writes, if it was `old` before them.
  abbrev pub value_after : List (Write T) → T → ℕ → T
  value_after ws old c = unwrap_or (last_written ws c) old

  -- The value at any number after a list of writes to a map of the default: that of the last write,
  -- and the error value above 0x10FFFF.
  abbrev pub answer_after : T → T → List (Write T) → ℕ → T
  answer_after default error ws u = if nat_le u 0x10FFFF then value_after ws default u else error
