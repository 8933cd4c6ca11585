use Rattle.std.proofs.Common.{Some, arith, sym, ap, ◌∙◌}
use Rattle.icu_trie_builder.proofs.AmendLemmas.{answers-of_trie}
use Rattle.icu_trie_builder.proofs.builder.CodePointTrieBuilder.from_trie.Goals as goal

pub fill_from-requires : goal.fill_from-requires
fill_from-requires g c = λ u l. c.new-builder.ensures.map u (omega (arith, l)) ∙ sym c.new-builder.ensures.default

pub returns-clause-values : goal.returns-clause-values
returns-clause-values g c =
    answers-of_trie c.fill_from.new.self c.args.trie.now c.in_ok-fill_from.ensures.values
    (ap Some (c.in_ok-fill_from.ensures.error ∙ c.new-builder.ensures.error) ∙ c.error_value-error.ensures)
