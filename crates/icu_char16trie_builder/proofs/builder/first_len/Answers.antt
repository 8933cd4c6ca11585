use Rattle.icu_char16trie_builder.proofs.EntryLemmas.{first_room}
use Rattle.icu_char16trie_builder.proofs.builder.first_len.Goals as goal

pub returns : goal.returns
returns c = first_room c.args.entries.now _ c.requires
