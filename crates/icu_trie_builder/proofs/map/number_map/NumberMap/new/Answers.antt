use Rattle.icu_trie_builder.proofs.MapLemmas.{one-length, one-at}
use Rattle.icu_trie_builder.proofs.map.number_map.NumberMap.new.Goals as goal

pub invariant_of-result : goal.invariant_of-result
invariant_of-result c = one-length c.args.number

pub returns-clause-len : goal.returns-clause-len
returns-clause-len c = one-length c.args.number

pub returns-clause-all : goal.returns-clause-all
returns-clause-all c = one-at c.args.number
