use Rattle.std.proofs.Common.{arith}
use Rattle.icu_char16trie_builder.proofs.StepLemmas.{cost_pushed}
use Rattle.icu_char16trie_builder.proofs.step.place_node.Goals as goal

pub returns-clause-less : goal.returns-clause-less
returns-clause-less c = omega (arith, cost_pushed _ _ _ c.in_ok-push-2.ensures.items, cost_pushed _ _ _ c.in_ok-push-3.ensures.items)
