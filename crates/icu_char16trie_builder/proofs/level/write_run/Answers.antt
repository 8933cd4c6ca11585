use Rattle.std.proofs.Common.{arith, length}
use Rattle.icu_char16trie_builder.specs.Inside.Steps.{lead_cost}
use Rattle.icu_char16trie.specs.UnitMap.{under}
use Rattle.icu_char16trie_builder.proofs.LevelLemmas.{run_level, grew_more}
use Rattle.icu_char16trie_builder.proofs.level.write_run.Goals as goal

pub returns-clause-node : goal.returns-clause-node
returns-clause-node c m h =
    c.in_ok-write_lead.ensures.node (under c.args.units.now m)
    (run_level _ c.args.units.now _ _ m (omega arith) c.in_ok-put_all.ensures c.requires.some c.requires.few h)

pub returns-clause-grew : goal.returns-clause-grew
returns-clause-grew c = grew_more (lead_cost c.args.value)
    (length c.args.units.now) c.args.units.now _ _ _ c.in_ok-put_all.ensures (omega arith) c.in_ok-write_lead.ensures.grew
