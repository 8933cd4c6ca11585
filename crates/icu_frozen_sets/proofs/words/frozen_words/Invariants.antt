use Rattle.std.proofs.Common.{◌*◌, drop}
use Rattle.icu_invlist.specs.InversionList.{ranges_of}
use Rattle.icu_frozen_sets.proofs.FreezeLemmas.{Freezes}
use Rattle.icu_frozen_sets.proofs.words.frozen_words.Given as goal

abbrev pub invariant-loop-i : goal.invariant-loop-i
invariant-loop-i g l = Freezes (g.B.Boundaries.list l.fn.ends) (ranges_of (drop (2 * l.i) (g.B.Boundaries.list l.fn.ends)))
    l.filling.bits l.filling.block l.filling.at
