-- Sets made from two sets.
use Rattle.std.specs.Prelude.{ℕ, ◌+◌, ◌≤◌, Bool, List, length}
use Rattle.icu_invlist.specs.InversionList.{Acts, holds}

-- The boundaries of the result of the operation f on the sets with the boundaries a and b. They are no
-- more than a and b have together.
pub record IsSetOf (f : Bool → Bool → Bool) (a b ends : List ℕ) : Type 0 where
  pub acts : Acts f a (holds b) ends
  pub few : length ends ≤ length a + length b
