use Rattle.std.proofs.Common.{append_assoc}
use Rattle.ucptrie_sets.proofs.rust_source.push_frozen.Goals as goal

pub returns : goal.returns
returns c = simp append_assoc
    (simp (c.in_ok-push_words.ensures, c.in_ok-push_frozen_head.ensures, c.last_block_of.ensures, append_assoc) at c.push_look_up.ensures)
