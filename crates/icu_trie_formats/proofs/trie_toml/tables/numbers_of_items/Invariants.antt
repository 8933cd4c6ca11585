use Rattle.std.proofs.Common.{◌≡◌, drop, map}
use Rattle.toml.specs.View.{view}
use Rattle.icu_zerovec.specs.FirstFault.{read_from}
use Rattle.icu_trie_formats.specs.TrieToml.{number_or, numbers_of}
use Rattle.icu_zerovec.proofs.CallerLemmas.{with_front}
use Rattle.icu_trie_formats.proofs.trie_toml.tables.numbers_of_items.Given as goal

-- The numbers so far, followed by those of the items that are left, are all numbers.
abbrev pub invariant-loop-item : goal.invariant-loop-item
invariant-loop-item g l =
    with_front l.numbers.items (read_from (λ _ d. number_or g.N.TrieValue.of_number l.fn.key d) l.item-index
    (map view (drop l.item-index l.items))) ≡ numbers_of g.N.TrieValue.of_number l.fn.key (map view l.items)
