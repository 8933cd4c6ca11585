-- The faults of the counts.
use Rattle.std.proofs.Common.{◌≡◌, ℕ, ◌-◌, List, ◌++◌, length, take, drop, Bool, true, false, Ok, Err, ◌⊎◌, inl, inr}
use Rattle.std.specs.Prelude.{if◌then◌else◌, nat_lt, ◌||◌}
use Rattle.icu_zerovec.specs.FirstFault.{and_then}
use Rattle.icu_invlist.specs.InversionList.{is_odd}
use Rattle.icu_invlist_binary.specs.SerializedSet.{IsWhyNotRead, closed, ends_in, ends_length, ends_of_pairs, ends_of_units, head_length, serialized_length, singles_length}
use Rattle.icu_invlist_binary.specs.declared.error.SerializedSetError.{SerializedSetError}
use Rattle.icu_invlist_binary.specs.declared.error.SerializedSetError.TheVariants.{Short, Count, Invalid, Memory}

one_fault : (b : Bool) (f e : SerializedSetError) (x : List ℕ) → (if b then Err f else Ok x) ≡ Err e → f ≡ e
one_fault true f e x h = cc
one_fault false f e x h = cc

two_faults : (b : Bool) (units : List ℕ) (n : ℕ) (e : SerializedSetError)
    → and_then (if b then Err Short else Ok units) (ends_of_units n) ≡ Err e → (Short ≡ e) ⊎ (Count ≡ e)
two_faults true units n e h = inl cc
two_faults false units n e h =
    inr (one_fault (nat_lt (length units) n || is_odd (length units - n)) Count e (closed (take n units ++ ends_of_pairs (drop n units))) h)

head_fault : (u : List ℕ) (e : SerializedSetError) → ends_in u ≡ Err e → (Short ≡ e) ⊎ (Count ≡ e)
unfolding ends_in
head_fault u e h = two_faults (nat_lt (length u) (serialized_length u)) (take (ends_length u) (drop (head_length u) u))
    (singles_length u) e h

told : (u : List ℕ) (e : SerializedSetError) → (Short ≡ e) ⊎ (Count ≡ e) → ends_in u ≡ Err e → IsWhyNotRead u e
told u Short k h = h
told u Count k h = h
told u Invalid (inl k) h = cc
told u Invalid (inr k) h = cc
told u Memory (inl k) h = cc
told u Memory (inr k) h = cc

-- They cause no other fault.
pub refused_counts : (u : List ℕ) (e : SerializedSetError) → ends_in u ≡ Err e → IsWhyNotRead u e
refused_counts u e h = told u e (head_fault u e h) h
