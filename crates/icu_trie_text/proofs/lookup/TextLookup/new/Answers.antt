use Rattle.icu_trie.specs.View.{view_parts}
use Rattle.icu_trie_text.proofs.AsciiLemmas.{ascii_known}
use Rattle.icu_trie_text.proofs.TwoByteLemmas.{index_at_least}
use Rattle.icu_trie_text.proofs.lookup.TextLookup.new.Goals as goal

pub invariant_of-result : goal.invariant_of-result
invariant_of-result g c =
    let found = c.ascii_end.ensures in
    let t = view_parts c.as_view-view.result in
    record {
      in_place = rw c.parts.ensures.values at (ascii_known t _ _ c.ascii_end.result c.parts.ensures.index
          c.parts.ensures.values found.bound found.first found.second found.there);
      bytes = λ some. rw c.parts.ensures.values at (c.first_bytes.ensures (found.there some));
      fast = c.fast_blocks.ensures;
      offsets = rw c.parts.ensures.index at (c.first_cells.ensures (rw (c.parts.ensures.index)
          (index_at_least g.T.TrieValue.of_number t c.parts.ensures.whole)));
    }
