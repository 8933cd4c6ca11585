use Rattle.icu_trie_formats.proofs.TomlLemmas.{same_trie, gives_trie}
use Rattle.icu_trie_formats.proofs.trie_toml.CodePointTrieTryFromRefCodePointTrieToml.try_from.Goals as goal

pub returns : goal.returns
returns g c =
    gives_trie g.T.TrieValue.of_number c.args.toml.now _ c.trie_with.result
    (same_trie g.T.TrieValue.of_number c.args.toml.now c.in_ok-header.header c.in_ok-values.values.items c.index_slice.result.now
    c.deref.result.now c.in_ok-header.ensures c.in_ok-values.ensures.ok c.index_slice.ensures c.deref.ensures.value)
    c.trie_with.ensures.ok c.trie_with.ensures.err
