use Rattle.icu_zerovec.specs.Slice.{slice_values}
use Rattle.std.proofs.Common.{◌≡◌, ◌<◌, ◌^◌, ◌++◌, map}
use Rattle.std.specs.Prelude.{All}
use Rattle.serde_json.specs.Data.{number, unsigned}
use Rattle.serde_json.specs.View.{view}
use Rattle.icu_char16trie.proofs.json.object_of.Given as goal

-- The items are the units so far, each below 2^16.
abbrev pub invariant-loop-unit : goal.invariant-loop-unit
invariant-loop-unit l = record {
  items : map view l.items.items ≡ map (λ u. number (unsigned u)) l.yielded;
  whole : l.yielded ++ l.unit-iterator ≡ slice_values l.fn.units;
  small : All (λ u. u < 2 ^ 16) l.yielded;
}
