use Rattle.icu_char16trie_builder.proofs.LevelLemmas.{branch_level, long_branch_level, grew_last, grew_same}
use Rattle.icu_char16trie_builder.proofs.level.write_length.Goals as goal

pub returns-then-count-clause-node : goal.returns-then-count-clause-node
returns-then-count-clause-node c us m p up =
    branch_level c.args.count _ us m c.requires.some c.if-count.true p up

pub returns-then-count-clause-grew : goal.returns-then-count-clause-grew
returns-then-count-clause-grew c = grew_same 1 _

pub returns-clause-node : goal.returns-clause-node
returns-clause-node c us m p up = rw c.in_ok-put_one.ensures (long_branch_level c.args.count _ us m c.requires.some p up)

pub returns-clause-grew : goal.returns-clause-grew
returns-clause-grew c = grew_last _ _ _ c.in_ok-put_one.ensures
