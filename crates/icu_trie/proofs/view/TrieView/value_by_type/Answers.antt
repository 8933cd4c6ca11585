use Rattle.std.proofs.Common.{◌∙◌}
use Rattle.icu_trie.specs.View.{view_parts}
use Rattle.icu_trie.proofs.Positions.{value_of_position}
use Rattle.icu_trie.proofs.view.TrieView.value_by_type.Goals as goal

pub returns : goal.returns
returns g c = c.value_at.ensures ∙ value_of_position (view_parts c.args.self.now) c.args.c c.place_by_type.result.0 c.place_by_type.ensures.place
