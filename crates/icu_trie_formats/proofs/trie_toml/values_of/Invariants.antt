use Rattle.std.proofs.Common.{◌≡◌, drop, map}
use Rattle.icu_zerovec.specs.FirstFault.{read_from}
use Rattle.icu_trie_formats.specs.TrieToml.{value_of, values_of}
use Rattle.icu_zerovec.proofs.CallerLemmas.{with_front}
use Rattle.icu_trie_formats.proofs.trie_toml.values_of.Given as goal

-- The values so far, followed by those of the cells that are left, are all values.
abbrev pub invariant-loop-cell : goal.invariant-loop-cell
invariant-loop-cell g l =
    with_front l.values.items (read_from (λ _ n. value_of g.T.TrieValue.of_number n) l.cell-index
    (map g.N.TrieValue.number (drop l.cell-index l.cells))) ≡ values_of g.T.TrieValue.of_number (map g.N.TrieValue.number l.cells)
