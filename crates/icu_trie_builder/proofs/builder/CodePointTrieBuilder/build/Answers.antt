use Rattle.std.proofs.Common.{subst}
use Rattle.std.specs.Prelude.{IfOk}
use Rattle.icu_trie_builder.specs.CodePointMap.{CodePointMap, map_value}
use Rattle.icu_trie_builder.specs.Bounds.{IsTooLarge}
use Rattle.icu_trie_builder.specs.Built.{IsBuiltFrom}
use Rattle.icu_trie_builder.proofs.builder.CodePointTrieBuilder.build.Goals as goal

pub returns-clause-too_large : goal.returns-clause-too_large
returns-clause-too_large g c = λ e.
    let P : CodePointMap g.row.T.Denot → Type 0 = λ m. IsTooLarge (λ k. g.T.TrieValue.number (map_value m k)) in
    subst P c.self.view_is (c.build_map.ensures.too_large e)

pub returns-clause-trie : goal.returns-clause-trie
returns-clause-trie g c =
    let P : CodePointMap g.row.T.Denot → Type 0 = λ m. IfOk c.build_map.result
    (IsBuiltFrom g.T.TrieValue.number g.T.TrieValue.of_number (map_value m) m.default m.error m.trie_type) in
    subst P c.self.view_is c.build_map.ensures.trie
