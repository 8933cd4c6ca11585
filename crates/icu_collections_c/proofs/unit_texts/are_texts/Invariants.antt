use Rattle.std.proofs.Common.{◌≤◌, length, drop}
use Rattle.std.specs.Prelude.{All, sum}
use Rattle.std.specs.Str.{IsUtf8}
use Rattle.icu_collections_c.specs.UnitTexts.{keys_of}
use Rattle.icu_collections_c.proofs.unit_texts.are_texts.Given as goal

-- All keys are texts if those that are left are.
abbrev pub invariant-loop-length : goal.invariant-loop-length
invariant-loop-length l = record {
  room : sum (drop l.length-index l.lengths) ≤ length l.rest;
  all : All IsUtf8 (keys_of l.rest (drop l.length-index l.lengths)) → All IsUtf8 (keys_of l.keys l.lengths);
  left : All IsUtf8 (keys_of l.keys l.lengths) → All IsUtf8 (keys_of l.rest (drop l.length-index l.lengths));
}
