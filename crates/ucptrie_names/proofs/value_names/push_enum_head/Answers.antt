use Rattle.ucptrie_names.specs.NamesSource.{rust_enum_head}
use Rattle.ucptrie_names.proofs.value_names.push_enum_head.Goals as goal

pub returns : goal.returns
unfolding rust_enum_head
returns c = c.push_named.ensures
