use Rattle.std.proofs.Common.{◌≡◌, [], length}
use Rattle.std.specs.List.{fold}
use Rattle.ucptrie_names.specs.NamesList.{with_longest}
use Rattle.ucptrie_names.proofs.names_list.longest_names.Given as goal

abbrev pub decreases-loop-rest : goal.decreases-loop-rest
decreases-loop-rest l = length l.rest

-- The names that are left change the entries so far to those of all names.
abbrev pub invariant-loop-rest : goal.invariant-loop-rest
invariant-loop-rest l =
    fold with_longest l.longest.entries l.rest ≡ fold with_longest [] l.names
