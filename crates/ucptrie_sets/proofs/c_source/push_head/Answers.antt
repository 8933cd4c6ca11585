use Rattle.ucptrie_sets.specs.SetSource.{c_head}
use Rattle.ucptrie_sets.proofs.c_source.push_head.Goals as goal

pub returns : goal.returns
unfolding c_head
returns c = simp c.max.ensures at c.push_pattern.ensures
