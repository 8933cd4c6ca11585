use Rattle.std.proofs.Common.{◌≡◌, ◌≤◌, ◌++◌, length, drop}
use Rattle.std.specs.Prelude.{All, sum}
use Rattle.std.specs.Str.{IsUtf8}
use Rattle.icu_collections_c.specs.UnitTexts.{key_lengths, key_units, keys_of}
use Rattle.icu_collections_c.proofs.unit_keys.transcoded.Given as goal

-- The keys so far and those that are left are all keys.
abbrev pub invariant-loop-length : goal.invariant-loop-length
invariant-loop-length l = record {
  room : sum (drop l.length-index l.lengths) ≤ length l.rest;
  texts : All IsUtf8 (keys_of l.rest (drop l.length-index l.lengths));
  units : l.given.units.items ++ key_units (keys_of l.rest (drop l.length-index l.lengths)) ≡ key_units (keys_of l.keys l.lengths);
  lengths : l.given.lengths.items ++ key_lengths (keys_of l.rest (drop l.length-index l.lengths)) ≡ key_lengths (keys_of l.keys l.lengths);
}
