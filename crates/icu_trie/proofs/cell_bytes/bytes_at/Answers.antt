-- The bytes of one value are its cell.
use Rattle.icu_trie.proofs.CellBytesLemmas.{cell_fits, value-cell, pack-cell}
use Rattle.icu_trie.proofs.cell_bytes.bytes_at.Goals as goal

pub slice_bounds-result-end : goal.slice_bounds-result-end
slice_bounds-result-end g c = rw (c.WIDTH.ensures, c.WIDTH-2.ensures)
    (cell_fits c.as_bytes.ensures.packed c.as_bytes.ensures.values c.len.ensures.len c.args.i c.if-i-len.false)

pub returns-clause-value : goal.returns-clause-value
returns-clause-value g c = rw (c.WIDTH.ensures, c.WIDTH-2.ensures)
    (value-cell c.as_bytes.ensures.packed c.as_bytes.ensures.values c.len.ensures.len c.args.i c.if-i-len.false)

pub returns-clause-canonical : goal.returns-clause-canonical
returns-clause-canonical g c = λ one. rw (c.WIDTH.ensures, c.WIDTH-2.ensures)
    (pack-cell c.as_bytes.ensures.packed c.as_bytes.ensures.values c.len.ensures.len c.args.i c.if-i-len.false g.T.AsULE.pack one)
