-- The merge of two sets into a caller's buffer, which may be too short.
use Rattle.std.specs.Prelude.{ℕ, ◌≡◌, List, length, Bool}
use Rattle.icu_zerovec.specs.Buffers.{written}
use Rattle.icu_invlist.specs.InversionList.{holds, IsValid, Acts}

-- The buffer starts with the boundaries of the result of the operation f on two sets, as many as fit.
-- There are n of them. The rest of the buffer is unchanged.
pub record HasMerged (f : Bool → Bool → Bool) (a b old new : List ℕ) (n : ℕ) : Type 0 where
  pub ends : List ℕ
  pub valid : IsValid ends
  pub set : Acts f a (holds b) ends
  pub count : n ≡ length ends
  pub buffer : new ≡ written ends old
