-- Each part is copied to its offset, and what follows the last one is unchanged.
use Rattle.icu_trie_binary.proofs.JoinedParts.{joined-copied}
use Rattle.icu_trie_binary.proofs.write.WrittenParts.write.Goals as goal

pub returns : goal.returns
returns c =
    joined-copied _ _ _ _ _ _ _ _ _ _ _ _ _ c.copy_from_slice.ensures.after c.copy_from_slice-2.ensures.after
    c.copy_from_slice-3.ensures.after c.copy_from_slice-4.ensures.after
    c.split_at_mut-header.ensures.back c.split_at_mut-index.ensures.back c.split_at_mut-padding.ensures.back
    c.split_at_mut-values.ensures.back
