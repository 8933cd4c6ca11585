use Rattle.std.proofs.Common.{arith, ap, ◌∙◌}
use Rattle.icu_trie_builder.specs.CodePointMap.{value_of_number}
use Rattle.icu_trie_builder.proofs.WholeLemmas.{number_value-at, value_of_number-back}
use Rattle.icu_trie_builder.proofs.builder.CodePointTrieBuilder.new.Goals as goal

pub returns-clause-map : goal.returns-clause-map
returns-clause-map g c = λ k h.
    let of_number = g.T.TrieValue.of_number in
    let d = c.args.default in
    number_value-at of_number d c.new.result k (omega (arith, h, c.new.ensures.len))
    ∙ ap (value_of_number of_number d) (c.new.ensures.all k (omega (arith, h)) ∙ c.to_u32.ensures)
    ∙ value_of_number-back of_number d g.T.AsULE.is_value g.T.TrieValue.number g.met.T.TrieValue.number_gives_back d c.shown.ensures
