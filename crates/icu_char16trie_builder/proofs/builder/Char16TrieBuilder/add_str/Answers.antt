use Rattle.icu_char16trie_builder.specs.Entries.{entry_map}
use Rattle.icu_char16trie_builder.proofs.EntryLemmas.{ascends_added}
use Rattle.icu_char16trie_builder.proofs.builder.Char16TrieBuilder.add_str.Goals as goal

pub invariant_of-self : goal.invariant_of-self
invariant_of-self c =
    ascends_added c.insert.result c.in-Ok.units.items _ (entry_map c.insert.new.entries.entries)
    (entry_map c.self.inside.entries.entries) c.insert.ensures.added c.insert.ensures.same c.self.invariant
