-- A property as it is read from a file.
use Rattle.toml.specs.View.{table_view}
use Rattle.ucptrie_readers.specs.Properties.{TrieProperty}
use Rattle.ucptrie_readers.specs.declared.properties.Property.{Property}

-- The key of a property, its table, and that of its trie.
abbrev pub as_read : Property → TrieProperty
as_read p = record { key = p.key.now; table = table_view p.table.now; trie = table_view p.trie.now }
