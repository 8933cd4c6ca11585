-- A trie takes no more bytes in this order than there are.
use Rattle.std.proofs.Common.{◌≡◌, length, ap, arith, ◌∙◌}
use Rattle.icu_trie_binary.specs.SwappedTrie.{in_other_order}
use Rattle.icu_trie_binary.proofs.SwappedUnits.{length-in_other_order}
use Rattle.icu_trie_binary.proofs.swapped.from_binary_swapped.Goals as goal

pub returns-clause-len : goal.returns-clause-len
returns-clause-len g c =
    let is : c.as_slice.result.now ≡ in_other_order c.WIDTH.result c.args.bytes.now = c.as_slice.ensures.value ∙ c.in_ok-swapped.ensures in
    omega (arith, ap length is, c.in_ok-trie.ensures.len, length-in_other_order c.WIDTH.result c.args.bytes.now)
