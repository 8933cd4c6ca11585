use Rattle.std.proofs.lemmas.Result.{on_ok_weaker}
use Rattle.icu_trie_builder.proofs.AmendLemmas.{IsAfter-inside, IsAfter-outside}
use Rattle.icu_trie_builder.proofs.builder.CodePointTrieBuilder.fill.Goals as goal

pub returns-clause-inside : goal.returns-clause-inside
returns-clause-inside g c = on_ok_weaker c.set_range_value.result
    (λ after. IsAfter-inside c.args.run.range c.args.run.value c.args.self.now c.set_range_value.new.self after c.requires.ordered
    c.requires.within) c.set_range_value.ensures.ok

pub returns-clause-outside : goal.returns-clause-outside
returns-clause-outside g c = on_ok_weaker c.set_range_value.result
    (λ after. IsAfter-outside c.args.run.range c.args.run.value c.args.self.now c.set_range_value.new.self after c.requires.ordered
    c.requires.within) c.set_range_value.ensures.ok
