use Rattle.icu_zerovec.specs.Slice.{slice_values}
use Rattle.std.proofs.Common.{◌≡◌, ◌++◌, map}
use Rattle.std.specs.Prelude.{All}
use Rattle.serde_json.specs.Data.{number, unsigned}
use Rattle.serde_json.specs.View.{view}
use Rattle.icu_trie_formats.specs.Inside.Numbers.{IsGivenBack}
use Rattle.icu_trie_formats.proofs.json.numbers_json.Given as goal

-- The items are the numbers so far, from which their values are read back.
abbrev pub invariant-loop-value : goal.invariant-loop-value
invariant-loop-value g l = record {
  items : map view l.items.items ≡ map (λ n. number (unsigned n)) (map g.T.TrieValue.number l.yielded);
  whole : l.yielded ++ l.value-iterator ≡ slice_values l.fn.values;
  back : All (IsGivenBack g.T.TrieValue.number g.T.TrieValue.of_number) l.yielded;
}
