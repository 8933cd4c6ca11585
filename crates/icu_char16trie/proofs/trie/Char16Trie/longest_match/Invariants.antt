use Rattle.std.proofs.Common.{◌-◌, length}
use Rattle.icu_char16trie.proofs.LongestLemmas.{IsAtNode}
use Rattle.icu_char16trie.proofs.trie.Char16Trie.longest_match.Given as goal

-- The units so far lead to the node. Once the node's value is read, the longest match among at most
-- these units is found.
abbrev pub invariant-loop-lead : goal.invariant-loop-lead
invariant-loop-lead l = IsAtNode l.fn.self l.text l.passed l.node l.found

abbrev pub decreases-loop-lead : goal.decreases-loop-lead
decreases-loop-lead l = length l.text - l.passed
