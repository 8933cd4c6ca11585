use Rattle.std.proofs.Common.{arith}
use Rattle.icu_char16trie.proofs.ValueLemmas.{node_is_ahead, node_past, run_is_ahead, run_past}
use Rattle.icu_char16trie.proofs.unique.node_ahead.Goals.{in-Node, in-Run}
use Rattle.icu_char16trie.proofs.unique.node_ahead.Goals as goal

pub returns-then-node-len : goal.returns-then-node-len
returns-then-node-len c =
    elim c.match-place.branch [
      | in-Node w ↦ rw w.in-Node.is (node_past _ _ (omega arith))
      | in-Run w ↦ rw w.in-Run.is (run_past _ _ _ c.match-place.node (omega arith) (omega arith))
    ]

pub returns : goal.returns
returns c =
    elim c.match-place.branch [
      | in-Node w ↦ rw (w.in-Node.is, w.node-is) (node_is_ahead _ _ (omega arith))
      | in-Run w ↦ rw w.in-Run.is (run_is_ahead _ _ _ c.match-place.node (omega arith) (omega arith))
    ]
