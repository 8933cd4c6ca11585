use Rattle.ucptrie_forms.specs.TableSource.{c_struct}
use Rattle.ucptrie_forms.proofs.c_source.push_struct.Goals as goal

pub returns : goal.returns
unfolding c_struct
returns c = rw c.header_numbers.ensures at c.push_pattern.ensures
