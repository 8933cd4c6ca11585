use Rattle.icu_trie_text.proofs.CellLemmas.{first_cells_are}
use Rattle.icu_trie_text.proofs.lookup.first_cells.Goals as goal

pub returns : goal.returns
returns c = λ enough i l. rw (c.as_bytes.ensures.values, c.unwrap_or.ensures)
    (first_cells_are c.as_bytes.result.now c.first_chunk.result _ _ c.as_bytes.ensures.packed c.as_chunks.ensures.front c.first_chunk.ensures.cases i l
    (rw c.as_bytes.ensures.values at enough))
