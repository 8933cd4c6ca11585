-- Units written into a caller's slice.
use Rattle.std.specs.Prelude.{◌≡◌, ℕ, ◌+◌, List, ◌++◌, length, take, drop}

-- The new list has these units from index `at` on, and is the old list before and after them.
pub record IsPut (old : List ℕ) (at : ℕ) (units new : List ℕ) : Type 0 where
  pub front : take (at + length units) new ≡ take at old ++ units
  pub back : drop (at + length units) new ≡ drop (at + length units) old
  pub same_length : length new ≡ length old
