use Rattle.std.proofs.Common.{length, sym, ap, ◌∙◌}
use Rattle.icu_char16trie_builder.proofs.EntryLemmas.{length-entry_map}
use Rattle.icu_char16trie_builder.proofs.builder.Char16TrieBuilder.len.Goals as goal

pub returns : goal.returns
returns c = c.len.ensures.len ∙ sym (length-entry_map c.self.inside.entries.entries) ∙ ap length c.self.view_is
