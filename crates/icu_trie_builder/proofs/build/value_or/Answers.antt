use Rattle.std.proofs.Common.{◌∙◌}
use Rattle.icu_trie_builder.proofs.BuilderLemmas.{unwrap_or-converted}
use Rattle.icu_trie_builder.proofs.build.value_or.Goals as goal

pub returns : goal.returns
returns g c =
    c.unwrap_or.ensures
    ∙ unwrap_or-converted (g.T.TrieValue.of_number c.args.number) c.try_from_u32.result c.args.default c.try_from_u32.ensures.ok
    c.try_from_u32.ensures.err
