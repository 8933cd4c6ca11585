use Rattle.ucptrie_names.specs.NamesSource.{rust_attributes}
use Rattle.ucptrie_names.proofs.value_names.push_attributes.Goals as goal

pub returns : goal.returns
unfolding rust_attributes
returns c = c.push_pattern.ensures
