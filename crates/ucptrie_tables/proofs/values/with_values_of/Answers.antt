use Rattle.std.proofs.Common.{rules}
use Rattle.ucptrie_tables.proofs.SameNumbers.{numbers-if_ok, numbers-if_err, numbers-if_first}
use Rattle.ucptrie_tables.proofs.values.with_values_of.Goals as goal

pub returns-clause-ok : goal.returns-clause-ok
returns-clause-ok g c = numbers-if_ok _ g.T.TrieValue.number g.P.TrieValue.of_number (λ s x r t h. search rules)
    (λ s x r t h. search rules) _ _ _ _ _ c.try_alloc_map_value.ensures.maps

pub returns-clause-err : goal.returns-clause-err
returns-clause-err g c = numbers-if_err _ g.T.TrieValue.number g.P.TrieValue.of_number (λ s x r t h. search rules)
    (λ s x r t h. search rules) _ _ _ _ _ c.try_alloc_map_value.ensures.maps

pub returns-clause-first : goal.returns-clause-first
returns-clause-first g c = numbers-if_first _ g.T.TrieValue.number g.P.TrieValue.of_number (λ s x r t h. search rules)
    (λ s x r t h. search rules) _ _ _ _ _ c.try_alloc_map_value.ensures.maps
