use Rattle.ucptrie_names.specs.NamesSource.{rust_of}
use Rattle.ucptrie_names.proofs.SourceTexts.{joined-2}
use Rattle.ucptrie_names.proofs.value_names.push_of.Goals as goal

pub returns : goal.returns
unfolding rust_of
returns c = joined-2 c.push_named-2.result _ _ _ _ _ c.in_ok-push_named.ensures c.push_named-2.ensures
