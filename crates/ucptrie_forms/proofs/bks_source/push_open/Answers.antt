use Rattle.ucptrie_forms.specs.TableSource.{bks_open}
use Rattle.ucptrie_forms.proofs.bks_source.push_open.Goals as goal

pub returns : goal.returns
unfolding bks_open
returns c = simp c.bits.ensures at c.push_pattern.ensures
