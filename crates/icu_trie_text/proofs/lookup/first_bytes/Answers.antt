use Rattle.icu_trie_text.proofs.CellLemmas.{first_bytes_are}
use Rattle.icu_trie_text.proofs.lookup.first_bytes.Goals as goal

pub returns : goal.returns
returns g c = rw (c.as_bytes.ensures.values, c.unwrap_or.ensures)
    (first_bytes_are _ _ c.as_bytes.result.now c.first_chunk.result _ c.as_bytes.ensures.packed c.first_chunk.ensures.cases)
