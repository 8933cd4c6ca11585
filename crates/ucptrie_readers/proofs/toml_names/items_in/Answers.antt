use Rattle.std.proofs.Common.{Some, option_map, map, sym, ap, ◌∙◌}
use Rattle.toml.specs.View.{view}
use Rattle.icu_trie_formats.specs.TrieToml.{list_of}
use Rattle.ucptrie_readers.proofs.TomlNameLemmas.{list_of-items_view}
use Rattle.ucptrie_readers.proofs.toml_names.items_in.Goals as goal

pub returns-in-Some : goal.returns-in-Some
returns-in-Some c = ap Some (ap (map view) c.as_slice.ensures.value ∙ sym (list_of-items_view c.in-Some.items.now.items))
    ∙ ap (option_map list_of) c.in-Some.ensures
