use Rattle.icu_char16trie_builder.proofs.SortedLemmas.{is_below}
use Rattle.icu_char16trie_builder.proofs.sorted.is_before.Goals as goal

pub returns : goal.returns
returns c = is_below c.args.a.now c.args.b.now c.lt.result c.lt.ensures
