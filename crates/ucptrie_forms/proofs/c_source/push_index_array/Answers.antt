use Rattle.std.proofs.Common.{append_assoc}
use Rattle.ucptrie_forms.specs.TableSource.{c_index}
use Rattle.ucptrie_forms.proofs.c_source.push_index_array.Goals as goal

pub returns : goal.returns
unfolding c_index
returns c =
    let whole = rw (c.in_ok-push_pattern.ensures, append_assoc) at c.push_index.ensures in
    simp (c.len.ensures.len, c.parts.ensures.index) at whole
