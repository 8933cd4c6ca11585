use Rattle.ucptrie_names.proofs.IdentifierLemmas.{pushed}
use Rattle.ucptrie_names.proofs.value_names.push_ascii.Goals as goal

pub returns : goal.returns
returns c = pushed c.push.result c.from.result c.args.byte _ _ _ c.from.ensures c.requires c.push.ensures.ascii c.push.ensures.bytes
