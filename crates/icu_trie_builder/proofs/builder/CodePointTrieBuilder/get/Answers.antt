use Rattle.std.proofs.Common.{arith, ap, sym, ◌∙◌}
use Rattle.icu_trie_builder.specs.CodePointMap.{CodePointMap, map_value}
use Rattle.icu_trie_builder.proofs.AmendLemmas.{map_answer-above, map_answer-inside, number_value-is}
use Rattle.icu_trie_builder.proofs.BuilderLemmas.{all_numbers}
use Rattle.icu_trie_builder.proofs.builder.CodePointTrieBuilder.get.Goals as goal

pub returns-then-c-ge-CODE_POINT_LIMIT : goal.returns-then-c-ge-CODE_POINT_LIMIT
returns-then-c-ge-CODE_POINT_LIMIT g c = ap (λ (m : CodePointMap g.row.T.Denot). m.error) c.self.view_is
    ∙ sym (map_answer-above c.args.self.now c.args.c (omega arith))

pub value_of_number-requires : goal.value_of_number-requires
value_of_number-requires g c =
    rw c.get.ensures (all_numbers g.T.AsULE.is_value g.T.TrieValue.number g.T.TrieValue.of_number g.met.T.TrieValue.number_gives_back
    c.self.inside.numbers c.self.inside.default c.self.inside.error c.self.invariant c.args.c 0 (omega (arith, c.self.invariant.whole)))

pub returns : goal.returns
returns g c =
    let own = number_value-is g.T.TrieValue.of_number c.self.inside.default c.self.inside.numbers c.args.c c.get.result
    c.value_of_number.result (omega (arith, c.self.invariant.whole)) (sym c.get.ensures) c.value_of_number.ensures in
    sym own ∙ ap (λ (m : CodePointMap g.row.T.Denot). map_value m c.args.c) c.self.view_is
    ∙ sym (map_answer-inside c.args.self.now c.args.c (omega arith))
