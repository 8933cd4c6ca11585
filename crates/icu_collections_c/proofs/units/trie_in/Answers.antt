use Rattle.std.proofs.Common.{◌∙◌}
use Rattle.icu_collections_c.proofs.UnitLemmas.{even-values_of}
use Rattle.icu_collections_c.proofs.units.trie_in.Goals as goal

pub returns : goal.returns
returns c = c.new.ensures ∙ c.in-Ok.ensures.ok.1 ∙ even-values_of _ c.args.bytes.now
