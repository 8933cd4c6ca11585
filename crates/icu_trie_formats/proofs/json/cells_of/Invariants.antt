use Rattle.std.proofs.Common.{◌≡◌, ◌^◌, drop, map}
use Rattle.std.specs.Prelude.{codes}
use Rattle.serde_json.specs.View.{view}
use Rattle.icu_trie_core.specs.ValueNumbers.{fitting}
use Rattle.icu_zerovec.specs.FirstFault.{read_from}
use Rattle.icu_trie_formats.specs.TrieJson.{number_or, cells_of}
use Rattle.icu_zerovec.proofs.CallerLemmas.{with_front}
use Rattle.icu_trie_formats.proofs.json.cells_of.Given as goal

-- The cells so far, followed by those of the items that are left, are all cells.
abbrev pub invariant-loop-item : goal.invariant-loop-item
invariant-loop-item l =
    with_front l.cells.items (read_from (λ _ d. number_or (fitting (2 ^ 16)) (codes "index") d) l.item-index
    (map view (drop l.item-index l.items))) ≡ cells_of (map view l.items)
