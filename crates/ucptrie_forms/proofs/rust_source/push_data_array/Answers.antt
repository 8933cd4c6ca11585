use Rattle.std.proofs.Common.{append_assoc}
use Rattle.ucptrie_forms.specs.TableSource.{rust_data}
use Rattle.ucptrie_forms.proofs.rust_source.push_data_array.Goals as goal

pub returns : goal.returns
unfolding rust_data
returns c =
    let whole = rw (c.in_ok-push_pattern.ensures, append_assoc) at c.push_data.ensures in
    simp (c.len.ensures.len, c.parts.ensures.values) at whole
