use Rattle.ucptrie_names.specs.NamesSource.{static_enum_head}
use Rattle.ucptrie_names.proofs.SourceTexts.{joined-2}
use Rattle.ucptrie_names.proofs.static_source.push_enum_head.Goals as goal

pub returns : goal.returns
unfolding static_enum_head
returns c = joined-2 c.push_pattern.result _ _ _ _ _ c.in_ok-push_named.ensures c.push_pattern.ensures
