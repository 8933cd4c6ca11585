-- The values are those of the numbers, packed in the same order.
use Rattle.std.proofs.Common.{rules, sym, ◌∙◌}
use Rattle.std.proofs.lemmas.Iterator.{YieldsList-from_map, YieldsList-from_slice}
use Rattle.std.proofs.lemmas.Iterator.Consumers.{YieldsList-at}
use Rattle.std.proofs.lemmas.List.{map-id}
use Rattle.std.proofs.lemmas.Result.{IfOk-weaker}
use Rattle.icu_zerovec.proofs.CallerLemmas.{drained_list}
use Rattle.icu_trie_builder.specs.CodePointMap.{value_of_number}
use Rattle.icu_trie_builder.specs.Inside.ValuesOfNumbers.{AreValuesOf}
use Rattle.icu_trie_builder.proofs.BuilderLemmas.{AreValuesOf-by}
use Rattle.icu_trie_builder.proofs.build.packed_values.Goals as goal

pub returns : goal.returns
returns g c =
    let of_number = g.T.TrieValue.of_number in
    let default = c.args.default in
    let numbers = c.args.numbers.now in
    IfOk-weaker c.alloc_from_iter.result _ (AreValuesOf of_number numbers)
    (λ v drained. AreValuesOf-by of_number default numbers v
    (sym (map-id v) ∙ drained_list v drained
    (YieldsList-from_map _ (value_of_number of_number default) (YieldsList-at c.map-values.ensures.source (YieldsList-from_slice numbers cc))
    c.map-values.ensures.closure (λ x r q k. search rules)))
    c.requires)
    c.alloc_from_iter.ensures
