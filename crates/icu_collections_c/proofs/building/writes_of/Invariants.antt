use Rattle.std.proofs.Common.{take}
use Rattle.icu_collections_c.specs.Inside.BuiltValues.{AreWritesOf}
use Rattle.icu_collections_c.proofs.building.writes_of.Given as goal

abbrev pub invariant-loop-row : goal.invariant-loop-row
invariant-loop-row g l = AreWritesOf g.T.TrieValue.number (take l.row-index l.rows) l.writes.items
