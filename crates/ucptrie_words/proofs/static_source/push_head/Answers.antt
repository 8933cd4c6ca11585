use Rattle.ucptrie_words.specs.StaticSource.{static_head}
use Rattle.ucptrie_words.proofs.static_source.push_head.Goals as goal

pub returns : goal.returns
unfolding static_head
returns c = rw (c.as_str.ensures.value, c.in_ok-capitals.ensures) at c.push_named.ensures
