use Rattle.ucptrie_sets.specs.SetToml.{toml_range}
use Rattle.ucptrie_sets.proofs.toml_text.push_range.Goals as goal

pub returns : goal.returns
unfolding toml_range
returns c = simp (c.start.ensures, c.end.ensures) at c.push_pattern.ensures
