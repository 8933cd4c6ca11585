use Rattle.std.proofs.Common.{◌≡◌, length}
use Rattle.ucptrie_names.specs.JoinSource.{identifier_of}
use Rattle.ucptrie_names.proofs.join_source.identifier_of.Given as goal

abbrev pub decreases-loop-rest : goal.decreases-loop-rest
decreases-loop-rest l = length l.rest

-- none of the values so far has the number
abbrev pub invariant-loop-rest : goal.invariant-loop-rest
invariant-loop-rest l = identifier_of l.rest l.number ≡ identifier_of l.values l.number
