use Rattle.std.proofs.Common.{arith}
use Rattle.ucptrie_tables.proofs.SizeLemmas.{trie_value-high}
use Rattle.ucptrie_tables.proofs.sizes.stored_values.Goals as goal

pub returns-clause-high : goal.returns-clause-high
returns-clause-high c = λ u from below.
    let limit = rw c.parts.ensures.header at c.fast_limit.ensures.limit in
    let start = rw c.parts.ensures.header at c.max-start.ensures in
    let end = c.min.ensures in
    trie_value-high c.args.trie.now u below (omega (arith, limit, start, end, from, below)) (omega (arith, limit, start, end, from, below))
