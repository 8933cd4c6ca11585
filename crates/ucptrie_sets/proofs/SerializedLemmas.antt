-- The faults of serialized units, with a failed allocation at any time.
use Rattle.std.proofs.Common.{ℕ, List}
use Rattle.icu_invlist_binary.specs.SerializedSet.{IsWhyNotRead}
use Rattle.icu_invlist_binary.specs.declared.error.SerializedSetError.{SerializedSetError}
use Rattle.icu_invlist_binary.specs.declared.error.SerializedSetError.TheVariants.{Short, Count, Invalid, Memory}
use Rattle.ucptrie_sets.specs.Sets.{IsWhyNoSetInUnits}

pub why_in_units : (units : List ℕ) (e : SerializedSetError) → IsWhyNotRead units e → IsWhyNoSetInUnits units e
why_in_units units Short h = h
why_in_units units Count h = h
why_in_units units Invalid h = h
why_in_units units Memory h = tt
