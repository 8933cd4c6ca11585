use Rattle.std.proofs.Common.{◌≡◌, ◌<◌, ◌||◌, ℕ, length}
use Rattle.icu_invlist.specs.InversionList.{holds}
use Rattle.icu_zerovec.specs.CodePoints.{code_point_limit}
use Rattle.ucd_files.specs.Coverage.{has_value}
use Rattle.ucd_files.proofs.coverage.points_with_value.Given as goal

-- a code point has been added, or is covered by a write that is left
abbrev pub invariant-loop-rest : goal.invariant-loop-rest
invariant-loop-rest l = (c : ℕ) → c < code_point_limit → (holds l.points c || has_value l.rest c) ≡ has_value l.writes c

abbrev pub decreases-loop-rest : goal.decreases-loop-rest
decreases-loop-rest l = length l.rest
