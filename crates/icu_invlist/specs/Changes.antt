-- What a method that changes a set does.
use Rattle.std.specs.Prelude.{◌≡◌, ℕ, List, Bool, Result, OnOk, OnErr}
use Rattle.icu_invlist.specs.InversionList.{IsValid, Acts}

-- Both sets are valid. On success, the new set is the result of the operation `op` on the old set
-- and the code points `named`. On error, the new set is the old one.
pub record Changes {T E : Type 0} (op : Bool → Bool → Bool) (old : List ℕ) (named : ℕ → Bool)
    (new : List ℕ) (result : Result T E) : Type 0 where
  pub ok : OnOk result (Acts op old named new)
  pub err : OnErr result (new ≡ old)
  pub valid : IsValid new × IsValid old
