-- ICU's serialized form of a set of code points, in 16-bit units. In uset.h, uset_serialize writes
-- it and uset_getSerializedSet reads it.
use Rattle.std.specs.Prelude.{◌≡◌, ◌≤◌, ◌<◌, ℕ, ◌+◌, ◌-◌, ◌*◌, ◌/◌, ◌%◌, nat_le, nat_lt, ◌||◌, Bool, List, [], ◌∷◌, ◌++◌, length, take, drop, slice_index, Result, Ok, Err, if◌then◌else◌}
use Rattle.std.specs.List.{filter, flat_map}
use Rattle.icu_zerovec.specs.CodePoints.{code_point_limit}
use Rattle.icu_zerovec.specs.FirstFault.{and_then}
use Rattle.icu_invlist.specs.InversionList.{IsValid, is_odd}
use Rattle.icu_invlist_binary.specs.declared.error.SerializeError.{SerializeError}
use Rattle.icu_invlist_binary.specs.declared.error.SerializeError.TheVariants as write_errors
use Rattle.icu_invlist_binary.specs.declared.error.WriteError.{WriteError}
use Rattle.icu_invlist_binary.specs.declared.error.WriteError.TheVariants as slice_errors
use Rattle.icu_invlist_binary.specs.declared.error.SerializedSetError.{SerializedSetError}
use Rattle.icu_invlist_binary.specs.declared.error.SerializedSetError.TheVariants.{Short, Count, Invalid, Memory}

-- ---- what is written
-- The units of a boundary: one if it is below 0x10000, and otherwise two, the upper 16 bits and the
-- lower 16. The end of the code space, which can only be the last boundary, is not written.
abbrev pub units_of_end : ℕ → List ℕ
units_of_end e =
    if nat_lt e 0x10000 then e ∷ []
    else (if nat_lt e code_point_limit then e / 0x10000 ∷ e % 0x10000 ∷ [] else [])

-- The units of the boundaries. Boundaries are ascending, so those of one unit come first.
abbrev pub units_of_ends : List ℕ → List ℕ
units_of_ends ends = flat_map units_of_end ends

-- How many boundaries are below 0x10000.
abbrev pub count_of_singles : List ℕ → ℕ
count_of_singles ends = length (filter (λ e. nat_lt e 0x10000) ends)

-- The units before the `count` units of boundaries, if `singles` boundaries take one unit. The
-- first unit is `count`. If some boundary takes two units, bit 15 is added to it, and the second
-- unit is `singles`.
abbrev pub head_units : ℕ → ℕ → List ℕ
head_units count singles =
    if nat_lt singles count then (0x8000 + count) ∷ singles ∷ [] else count ∷ []

-- The serialized form of the set with these boundaries.
abbrev pub units_of : List ℕ → List ℕ
units_of ends =
    head_units (length (units_of_ends ends)) (count_of_singles ends) ++ units_of_ends ends

-- The set has a serialized form: the number of units of its boundaries fits in 15 bits.
abbrev pub HasForm : List ℕ → Type 0
HasForm ends = length (units_of_ends ends) ≤ 0x7FFF

-- A set is not written if it has no serialized form, or if an allocation fails.
abbrev pub IsWhyNotWritten : List ℕ → SerializeError → Type 0
IsWhyNotWritten ends write_errors.TooLong = ¬ (HasForm ends)
IsWhyNotWritten ends write_errors.Memory = HasForm ends

-- A set is not written into a slice if it has no serialized form, or if the slice is too short.
abbrev pub IsWhyNotPut : List ℕ → ℕ → WriteError → Type 0
IsWhyNotPut ends room slice_errors.TooLong = ¬ (HasForm ends)
IsWhyNotPut ends room slice_errors.Short = HasForm ends × (room < length (units_of ends))

-- ---- what is read
-- Bit 15 of the first unit: there are boundaries of two units.
abbrev pub has_pairs : List ℕ → Bool
has_pairs units = nat_le 0x8000 (slice_index units 0)

-- The number of units before those of the boundaries.
abbrev pub head_length : List ℕ → ℕ
head_length units = if has_pairs units then 2 else 1

-- The number of units that the boundaries take.
abbrev pub ends_length : List ℕ → ℕ
ends_length units = slice_index units 0 % 0x8000

-- The number of boundaries of one unit: all of them, or the number in the second unit.
abbrev pub singles_length : List ℕ → ℕ
singles_length units = if has_pairs units then slice_index units 1 else ends_length units

-- The number of units that the whole set takes. Units after them are not part of the set.
abbrev pub serialized_length : List ℕ → ℕ
serialized_length units = head_length units + ends_length units

-- The boundaries of two units each.
abbrev pub ends_of_pairs : List ℕ → List ℕ
ends_of_pairs [] = []
ends_of_pairs (unit ∷ []) = []
ends_of_pairs (upper ∷ lower ∷ units) = (upper * 0x10000 + lower) ∷ ends_of_pairs units

-- If the number of boundaries is odd, the end of the code space is appended.
abbrev pub closed : List ℕ → List ℕ
closed ends = if is_odd (length ends) then ends ++ code_point_limit ∷ [] else ends

-- The units of the boundaries, if there are as many units as the first one says.
abbrev pub units_of_ends_in : List ℕ → Result (List ℕ) SerializedSetError
units_of_ends_in units =
    if nat_lt (length units) (serialized_length units) then Err Short
    else Ok (take (ends_length units) (drop (head_length units) units))

-- The boundaries in these units, if the first n units are one boundary each.
abbrev pub ends_of_units : ℕ → List ℕ → Result (List ℕ) SerializedSetError
ends_of_units n units =
    if nat_lt (length units) n || is_odd (length units - n) then Err Count
    else Ok (closed (take n units ++ ends_of_pairs (drop n units)))

-- The boundaries in the units, or the first fault.
unfoldable pub ends_in : List ℕ → Result (List ℕ) SerializedSetError
ends_in units = and_then (units_of_ends_in units) (ends_of_units (singles_length units))

-- The units start with the set with these boundaries, which takes `len` units.
pub record IsSerialized (units ends : List ℕ) (len : ℕ) : Type 0 where
  pub says : ends_in units ≡ Ok ends
  pub valid : IsValid ends
  pub takes : len ≡ serialized_length units
  pub within : len ≤ length units

-- Why no set is read: the first fault, or the boundaries are not an inversion list. `Memory` is
-- possible only if the units start with a valid set.
abbrev pub IsWhyNotRead : List ℕ → SerializedSetError → Type 0
IsWhyNotRead units Short = ends_in units ≡ Err Short
IsWhyNotRead units Count = ends_in units ≡ Err Count
IsWhyNotRead units Invalid = (ends : List ℕ) × (ends_in units ≡ Ok ends) × (¬ (IsValid ends))
IsWhyNotRead units Memory = (ends : List ℕ) × (ends_in units ≡ Ok ends) × IsValid ends
