-- Sets that are made from ranges, from single code points or from another set.
use Rattle.std.specs.Prelude.{ℕ, ◌≡◌, ◌<◌, ◌≤◌, ◌==◌, ◌&&◌, nat_le, Bool, List, length}
use Rattle.std.specs.List.{list_any}
use Rattle.icu_zerovec.specs.CodePoints.{code_point_limit}
use Rattle.icu_invlist.specs.InversionList.{holds}
use Rattle.icu_collections_c.specs.declared.set_building.Interval.{Interval}

-- The set contains exactly the code points for which `named` is true, and it has at most `most`
-- boundaries.
pub record HoldsExactly (named : ℕ → Bool) (most : ℕ) (ends : List ℕ) : Type 0 where
  pub held : (c : ℕ) → c < code_point_limit → holds ends c ≡ named c
  pub few : length ends ≤ most

-- Whether the range contains c. Its first and its last number are included.
abbrev pub in_range : Interval → ℕ → Bool
in_range range c = nat_le range.first c && nat_le c range.last

-- Whether one of the ranges contains c.
abbrev pub in_some : List Interval → ℕ → Bool
in_some ranges c = list_any (λ range. in_range range c) ranges

-- Whether c is one of the points.
abbrev pub is_one_of : List ℕ → ℕ → Bool
is_one_of points c = list_any (λ point. point == c) points
