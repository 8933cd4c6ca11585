use Rattle.std.proofs.Common.{◌≡◌, ◌≤◌, None}
use Rattle.std.specs.Prelude.{⊤}
use Rattle.std.specs.Iterator.{size, IsFinite}
use Rattle.itertools.specs.Adaptor.{fuse_left}
use Rattle.itertools.proofs.AdaptorLemmas.{Partway}
use Rattle.icu_trie.specs.JoinedRanges.{joined_ranges_from}
use Rattle.icu_trie.specs.Coalescer.{coalescer_source, coalescer_gives}
use Rattle.icu_trie.proofs.iterator_utils.RangeListIteratorCoalescerIterator.next.Given as goal

-- The ranges still to come are joined to the range so far.
abbrev pub invariant-loop-next : goal.invariant-loop-next
invariant-loop-next g l =
    Partway g.I.Iterator coalescer_source (λ s (k : ⊤). ⊤) (λ k. coalescer_gives g.U.PartialEq.eq) l.fn.self l.self.iter (λ k. ⊤)
    (λ k. joined_ranges_from g.U.PartialEq.eq l.range)
    × ((l.self.peek ≡ None) × IsFinite (fuse_left g.I.Iterator.remaining l.self.iter)
    × (size (fuse_left g.I.Iterator.remaining l.self.iter) ≤ size (fuse_left g.I.Iterator.remaining l.initial.self.iter)))

abbrev pub decreases-loop-next : goal.decreases-loop-next
decreases-loop-next g l = size (fuse_left g.I.Iterator.remaining l.self.iter)
