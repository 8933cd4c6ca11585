-- The block and the position in it are those of the code point.
use Rattle.std.proofs.Common.{◌≡◌, ◌+◌, ◌*◌, ◌/◌, ◌%◌, arith}
use Rattle.icu_trie.proofs.Positions.{limit_of}
use Rattle.icu_trie.proofs.view.TrieView.fast_place.Goals as goal

pub returns-clause-limit : goal.returns-clause-limit
returns-clause-limit g c =
    limit_of c.args.trie_type c.args.c c.block_place.result (rw (c.fast_index_len.ensures) at c.block_place.ensures.past)

pub returns-clause-place : goal.returns-clause-place
returns-clause-place g c =
    let same : c.args.c / 64 * 64 + c.args.c % 64 ≡ c.args.c = omega arith in
    rw (same) at c.block_place.ensures.place
