-- The header has its 16 bytes.
use Rattle.std.proofs.Common.{◌≡◌, ◌≤◌, length, arith, ap}
use Rattle.icu_trie_binary.specs.SwappedTrie.{swapped_header}
use Rattle.icu_trie_binary.proofs.SwappedUnits.{length-swapped_header}
use Rattle.icu_trie_binary.proofs.swapped.in_other_order.Goals as goal

pub said_by-index-requires-clause-header : goal.said_by-index-requires-clause-header
said_by-index-requires-clause-header c =
    let is : c.as_slice.result.now ≡ swapped_header c.args.bytes.now =
    cc (c.as_slice.ensures.value, c.in_ok-append_header.ensures, c.new-swapped.ensures.items) in
    let long : 16 ≤ length c.args.bytes.now = omega arith in
    omega (arith, ap length is, length-swapped_header c.args.bytes.now long)
