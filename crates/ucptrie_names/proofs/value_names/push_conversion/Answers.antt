use Rattle.ucptrie_names.specs.NamesSource.{rust_conversion}
use Rattle.ucptrie_names.proofs.value_names.push_conversion.Goals as goal

pub returns : goal.returns
unfolding rust_conversion
returns c = c.push_pattern.ensures
