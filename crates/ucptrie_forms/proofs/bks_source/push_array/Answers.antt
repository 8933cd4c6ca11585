use Rattle.std.proofs.Common.{append_assoc}
use Rattle.ucptrie_forms.proofs.bks_source.push_array.Goals as goal

pub returns : goal.returns
returns c = simp append_assoc
    (simp (c.in_ok-push_bytes.ensures, c.in_ok-push_head.ensures, append_assoc) at c.push_open.ensures)
