use Rattle.icu_invlist.specs.NamedCodePoints.{IsUnionOf}
use Rattle.icu_invlist.proofs.codepointinvlist.cpinvlist.CodePointInversionList.from_iter.Given as goal

abbrev pub invariant-loop-range : goal.invariant-loop-range
invariant-loop-range g l = IsUnionOf l.yielded l.builder
