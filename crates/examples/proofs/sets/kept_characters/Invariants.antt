use Rattle.std.specs.String.{string_bytes}
use Rattle.icu_collections.specs.CodePointInversionList.{holds}
use Rattle.examples.proofs.Kept.{Keeping}
use Rattle.examples.proofs.sets.kept_characters.Given as goal

abbrev pub invariant-loop-c : goal.invariant-loop-c
invariant-loop-c l = Keeping (holds l.set) l.text l.c-iterator.rest.now (string_bytes l.kept)
