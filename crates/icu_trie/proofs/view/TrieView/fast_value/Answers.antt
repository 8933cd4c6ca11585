-- The block and the position in it are those of the code point.
use Rattle.std.proofs.Common.{◌≡◌, ◌+◌, ◌*◌, ◌/◌, ◌%◌, arith}
use Rattle.icu_trie.proofs.view.TrieView.fast_value.Goals as goal

pub returns : goal.returns
returns g c =
    let same : c.args.c / 64 * 64 + c.args.c % 64 ≡ c.args.c = omega arith in
    rw (same) at c.value_in_fast_block.ensures
