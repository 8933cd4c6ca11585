use Rattle.ucptrie_sets.specs.SetSource.{title}
use Rattle.ucptrie_sets.proofs.source.title_of.Goals as goal

pub returns : goal.returns
unfolding title
returns c = simp (c.size.ensures.size, c.get_range_count.ensures.count, c.new-text.ensures.bytes) at c.in_ok-push_pattern.ensures
