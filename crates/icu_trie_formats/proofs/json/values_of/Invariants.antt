use Rattle.std.proofs.Common.{◌≡◌, drop, map}
use Rattle.serde_json.specs.View.{view}
use Rattle.icu_zerovec.specs.FirstFault.{read_from}
use Rattle.icu_trie_formats.specs.TrieJson.{value_of, values_of}
use Rattle.icu_zerovec.proofs.CallerLemmas.{with_front}
use Rattle.icu_trie_formats.proofs.json.values_of.Given as goal

-- The values so far, followed by those of the items that are left, are all values.
abbrev pub invariant-loop-i : goal.invariant-loop-i
invariant-loop-i g l =
    with_front l.values.items (read_from (value_of g.T.TrieValue.of_number) l.i (map view (drop l.i l.items)))
    ≡ values_of g.T.TrieValue.of_number (map view l.items)
