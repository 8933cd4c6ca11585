use Rattle.ucptrie_forms.specs.TableSource.{c_numbers}
use Rattle.ucptrie_forms.proofs.c_source.push_numbers.Goals as goal

pub returns : goal.returns
unfolding c_numbers
returns c = simp (c.fast_limit.ensures.limit, c.index1_offset.ensures, c.len.ensures.len, c.parts.ensures.header, c.parts.ensures.values)
    at c.push_pattern.ensures
