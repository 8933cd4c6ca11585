use Rattle.icu_collections_c.proofs.RunLemmas.{HasGone}
use Rattle.icu_collections_c.proofs.listing.listed.Given as goal

-- The items so far were no failed allocations. All are counted, and those that fit are stored.
abbrev pub invariant-loop-item : goal.invariant-loop-item
invariant-loop-item l = HasGone l.yielded l.most_words l.most_bytes l.listing
