use Rattle.std.proofs.Common.{◌<◌, ◌/◌, length, arith}
use Rattle.std.proofs.lemmas.Nat.{and_le_r}
use Rattle.icu_trie_core.specs.Format.{fast_limit}
use Rattle.icu_trie_core.proofs.FastIndexLemmas.{in_fast_index, block_inside}
use Rattle.icu_trie_core.proofs.lookup.look_up_whole.Goals as goal

pub data_at-requires : goal.data_at-requires
data_at-requires g c =
    let header = c.args.header.now in
    let below : c.args.c < fast_limit header.trie_type = omega (arith, c.fast_limit.ensures.limit) in
    let within : c.args.c / 64 < _ = in_fast_index header.trie_type c.args.c below in
    let inside = block_inside header.trie_type (g.C.Cells.contents c.args.cells.now).index
    (length (g.C.Cells.contents c.args.cells.now).values)
    (c.args.c / 64) c.index_at-offset.result
    c.requires.whole.1 c.index_at-offset.ensures.cell within in
    rw c.index_at-offset.ensures.kept (omega (arith, inside, and_le_r c.args.c 63))
