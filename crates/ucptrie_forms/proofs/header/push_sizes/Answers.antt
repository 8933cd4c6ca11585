use Rattle.ucptrie_forms.specs.TableSource.{sizes_text}
use Rattle.ucptrie_forms.proofs.header.push_sizes.Goals as goal

pub returns : goal.returns
unfolding sizes_text
returns c = simp (
  c.bits.ensures,
  c.len.ensures.len,
  c.len-2.ensures.len,
  c.len-3.ensures.len,
  c.len-4.ensures.len,
  c.data_size.ensures,
  c.type_name.ensures,
  c.parts.ensures.header,
  c.parts.ensures.index,
  c.parts.ensures.values,
) at c.push_pattern.ensures
