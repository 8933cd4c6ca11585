-- Packed bytes: cells of w bytes each, one for each value, with nothing in between. In these
-- definitions, f is the function that reads a cell. It returns the value of w bytes, or `None` if
-- they are not a value.
use Rattle.std.specs.Prelude.{◌≡◌, ℕ, ◌*◌, ◌/◌, ◌%◌, ◌<◌, List, [], ◌++◌, length, take, drop, Option, IsSome, IsNone, ◌≢◌, slice_get, ◌∷◌, Bool, nat_eq, Result, IfOk, IfErr}
use Rattle.std.specs.Cmp.Lexicographic.{pointwise}
use Rattle.std.specs.Hash.{HashWrites}
use Rattle.std.specs.Option.{option_to_list, option_and_then, option_map}
use Rattle.std.proofs.Common.{zero, suc}
use Rattle.icu_zerovec.specs.PackedBytes.{AreBytes}
use Rattle.icu_zerovec.specs.declared.ule.UleError.{UleError}
use Rattle.icu_zerovec.specs.declared.ule.UleError.TheVariants.{Length, Cell}

-- ---- what packed bytes are
-- Cell i of the bytes, counted from 0: the w bytes from offset i * w on.
abbrev pub cell : ℕ → List ℕ → ℕ → List ℕ
cell w b i = take w (drop (i * w) b)

-- The values of the first n cells.
abbrev pub values_from : {T : Type 0} → (List ℕ → Option T) → ℕ → List ℕ → ℕ → List T
values_from f w b zero = []
values_from f w b (suc n) = option_to_list (f (take w b)) ++ values_from f w (drop w b) n

-- The values of all whole cells, in order.
unfoldable pub values_of : {T : Type 0} → (List ℕ → Option T) → ℕ → List ℕ → List T
values_of f w b = values_from f w b (length b / w)

-- The bytes are whole cells, and each cell is a value.
pub record IsPacked {T : Type 0} (f : List ℕ → Option T) (w : ℕ) (b : List ℕ) : Type 0 where
  pub whole : length b % w ≡ 0
  pub valued : (i : ℕ) → i < length b / w → IsSome (f (cell w b i))
  pub small : AreBytes b

-- ---- why bytes are not packed
-- The first fault of bytes: their number is not a multiple of w, or otherwise cell i is the first
-- that is not a value.
abbrev pub IsFault : {T : Type 0} → (List ℕ → Option T) → ℕ → List ℕ → UleError → Type 0
IsFault f w b Length = length b % w ≢ 0
IsFault f w b (Cell i) =
    (length b % w ≡ 0) × (i < length b / w) × IsNone (f (cell w b i))
    × ((j : ℕ) → j < i → IsSome (f (cell w b j)))

-- The fault is that of a cell.
abbrev pub IsCell : UleError → Type 0
IsCell Length = ⊥
IsCell (Cell i) = Unit {0}

-- ---- the same bytes, read as values of another type
-- Some bytes that unpack to the values xs, in cells of w bytes that f reads, were read by g in
-- cells of v bytes. Either each cell is a value, or the fault is the first one. If each value has
-- one encoding, these are the bytes that xs packs to.
pub record IsConverted {T P : Type 0} (f : List ℕ → Option T) (w : ℕ) (g : List ℕ → Option P)
    (v : ℕ) (xs : List T) (r : Result (List P) UleError) : Type 0 where
  pub bytes : List ℕ
  pub packed : IsPacked f w bytes
  pub values : values_of f w bytes ≡ xs
  pub ok : IfOk r (λ ys. IsPacked g v bytes × (ys ≡ values_of g v bytes))
  pub err : IfErr r (IsFault g v bytes)

-- The same fault in terms of values: value i is the first of xs whose packed bytes g does not read.
abbrev pub IsFirstRefusedCell : {T P : Type 0} → (T → List ℕ) → (List ℕ → Option P) → List T
    → UleError → Type 0
IsFirstRefusedCell pack g xs Length = ⊥
IsFirstRefusedCell pack g xs (Cell i) =
    (i < length xs) × IsNone (option_and_then g (option_map pack (slice_get xs i)))
    × ((j : ℕ) → j < i → IsSome (option_and_then g (option_map pack (slice_get xs j))))

-- ---- equality and hash
-- Whether two values pack to the same bytes. For lawful values, this is the case if and only if
-- they are equal.
abbrev pub same_bytes : {T : Type 0} → (T → List ℕ) → T → T → Bool
same_bytes pack x y = pointwise nat_eq (pack x) (pack y)

-- What a value feeds to a hasher: its packed bytes, in one write.
abbrev pub one_write : {T : Type 0} → (T → List ℕ) → T → HashWrites
one_write pack x = pack x ∷ []
