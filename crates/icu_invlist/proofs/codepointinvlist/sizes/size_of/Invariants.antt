use Rattle.std.proofs.Common.{◌≡◌, ◌+◌, ◌*◌, drop}
use Rattle.icu_invlist.specs.Inside.PackedSets.{sum_of_sizes}
use Rattle.icu_invlist.proofs.codepointinvlist.sizes.size_of.Given as goal

abbrev pub invariant-loop-i : goal.invariant-loop-i
invariant-loop-i l = record { so_far : l.size + sum_of_sizes (drop (2 * l.i) l.ends) ≡ sum_of_sizes l.ends }
