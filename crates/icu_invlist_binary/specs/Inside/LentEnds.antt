-- Boundaries in borrowed units.
use Rattle.std.specs.Prelude.{ℕ, List, ◌++◌}
use Rattle.icu_invlist_binary.specs.SerializedSet.{ends_of_pairs}
use Rattle.icu_invlist_binary.specs.declared.lent_ends.LentEnds.{LentEnds}

-- The boundaries, those of one unit first.
abbrev pub ends_lent : LentEnds → List ℕ
ends_lent s = s.singles.now ++ ends_of_pairs s.pairs.now
