use Rattle.icu_zerovec.specs.Slice.{slice_values}
use Rattle.serde_json.specs.View.{view}
use Rattle.icu_trie_formats.proofs.JsonLemmas.{written, written_is_read}
use Rattle.icu_trie_formats.proofs.json.to_json.Goals as goal

pub returns-clause-json : goal.returns-clause-json
returns-clause-json g c =
    written g.T.TrieValue.number c.args.trie.now (view c.in_ok-value.value) (view c.in_ok-header.header) (view c.in_ok-index.index)
    (view c.in_ok-data.«data») c.parts.result.0 (slice_values c.parts.result.1) (slice_values c.parts.result.2)
    c.parts.ensures.header c.parts.ensures.index c.parts.ensures.values c.in_ok-value.ensures c.in_ok-header.ensures.json
    c.in_ok-index.ensures.json c.in_ok-data.ensures.json

pub returns-clause-read_back : goal.returns-clause-read_back
returns-clause-read_back g c =
    written_is_read g.T.TrieValue.number g.T.TrieValue.of_number c.args.trie.now (view c.in_ok-value.value) c.parts.result.0
    (slice_values c.parts.result.1) (slice_values c.parts.result.2)
    c.parts.ensures.header c.parts.ensures.index c.parts.ensures.values c.in_ok-header.ensures.back c.in_ok-index.ensures.back
    c.in_ok-data.ensures.back (returns-clause-json g c) c.parts.ensures.whole
