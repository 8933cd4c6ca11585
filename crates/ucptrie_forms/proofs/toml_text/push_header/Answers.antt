use Rattle.ucptrie_forms.specs.TableSource.{toml_header}
use Rattle.ucptrie_forms.proofs.toml_text.push_header.Goals as goal

pub returns : goal.returns
unfolding toml_header
returns c = rw c.header_numbers.ensures at c.push_pattern.ensures
