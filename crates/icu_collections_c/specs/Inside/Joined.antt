-- Ranges that are joined into the boundaries of a set, in the order of their first numbers.
use Rattle.std.specs.Prelude.{ℕ, ◌+◌, ◌-◌, ◌<◌, ◌≤◌, List, length, slice_index}
use Rattle.icu_invlist.specs.InversionList.{Acts, IsValid, either}
use Rattle.icu_collections_c.specs.SetBuilding.{in_range}
use Rattle.icu_collections_c.specs.declared.set_building.Interval.{Interval}

-- The boundaries of a set whose last range starts at n or before.
pub record StartsUpTo (n : ℕ) (ends : List ℕ) : Type 0 where
  pub valid : IsValid ends
  pub last : 1 < length ends → slice_index ends (length ends - 2) ≤ n

-- The range is added to the set. At most two boundaries are added.
pub record IsJoined (range : Interval) (old new : List ℕ) : Type 0 where
  pub starts : StartsUpTo range.first new
  pub set : Acts either old (in_range range) new
  pub few : length new ≤ length old + 2
