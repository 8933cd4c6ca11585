use Rattle.ucptrie_forms.specs.TableSource.{rust_head}
use Rattle.ucptrie_forms.proofs.rust_source.push_head.Goals as goal

pub returns : goal.returns
unfolding rust_head
returns c = simp (c.bits.ensures, c.type_code.ensures, c.fast_limit.ensures.limit, c.index1_offset.ensures, c.parts.ensures.header)
    at c.push_pattern.ensures
