use Rattle.std.proofs.Common.{sym}
use Rattle.icu_char16trie_builder.proofs.OpenLemmas.{first_deep}
use Rattle.icu_char16trie_builder.proofs.open.push_entries.Goals as goal

pub push_match-requires-clause-deep : goal.push_match-requires-clause-deep
push_match-requires-clause-deep c = first_deep c.args.depth c.args.entries.now c.in-Some.first.now (sym c.in-Some.ensures.value)
    c.requires.longer
