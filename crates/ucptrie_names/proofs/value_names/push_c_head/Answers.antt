use Rattle.ucptrie_names.specs.NamesSource.{c_enum_head}
use Rattle.ucptrie_names.proofs.value_names.push_c_head.Goals as goal

pub returns : goal.returns
unfolding c_enum_head
returns c = c.push_named.ensures
