use Rattle.std.proofs.Common.{sym}
use Rattle.icu_char16trie.proofs.CountLemmas.{both_counted}
use Rattle.icu_char16trie.proofs.counted.+count_part.Goals as goal

pub returns : goal.returns
returns t c =
    let two = c.in_ok-_split.ensures.two in
    rw c.both_counts.ensures
    (both_counted _ _ _ _ c.in_ok-_split._split c.in_ok-_split.delta c.in_ok-low.low _ c.in_ok-lower.lower c.in_ok-upper.upper
    c.if-count-le-MAX_BRANCH_LINEAR_SUB_NODE_LENGTH.false two.0 two.1
    (sym c.in_ok-low.ensures.part) c.delta_end-high.ensures.end c.in_ok-lower.ensures c.in_ok-upper.ensures)
