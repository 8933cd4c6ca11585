use Rattle.icu_char16trie_builder.specs.Inside.Steps.{lead_cost}
use Rattle.icu_char16trie_builder.proofs.LevelLemmas.{grew_twice}
use Rattle.icu_char16trie_builder.proofs.level.write_branch.Goals as goal

pub returns-clause-node : goal.returns-clause-node
returns-clause-node c us m p up = c.in_ok-write_lead.ensures.node m (c.in_ok-low.ensures.node us m p up)

pub returns-clause-grew : goal.returns-clause-grew
returns-clause-grew c = grew_twice (lead_cost c.args.value) 1 _ _ _ c.in_ok-low.ensures.grew c.in_ok-write_lead.ensures.grew
