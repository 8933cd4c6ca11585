use Rattle.std.proofs.Common.{◌≡◌, ℕ, ◌+◌, ◌<◌, ◌↔◌, slice_index, false}
use Rattle.simdutf8.specs.Steps.{Step}
use Rattle.icu_collections_c.proofs.well_formed.tested.has_fault.Given as goal

-- No byte before the current one is a fault, if none was found.
abbrev pub invariant-loop-i : goal.invariant-loop-i
invariant-loop-i l =
    (l.found ≡ false)
    ↔ ((k : ℕ) → k + 3 < l.i
    → Step (slice_index l.bytes k) (slice_index l.bytes (k + 1)) (slice_index l.bytes (k + 2)) (slice_index l.bytes (k + 3)))
