-- Tries that are built from rows, and the bytes that they are written as.
use Rattle.std.specs.Prelude.{◌≡◌, ℕ, ◌+◌, ◌-◌, ◌*◌, ◌/◌, ℤ, pos, ◌<◌, ◌≤◌, min, ◌⊎◌, ◌&&◌, nat_eq, nat_le, Bool, List, [], ◌∷◌, ◌++◌, length, drop, All, Option, Some, None, IsSome, unwrap_or, if◌then◌else◌}
use Rattle.std.specs.Option.{option_or}
use Rattle.icu_trie.specs.Parts.{Parts, trie_value}
use Rattle.icu_trie.specs.Ranges.{IsCoherentTrie}
use Rattle.icu_trie_core.specs.ValueNumbers.{type_number}
use Rattle.icu_trie_binary.specs.BinaryTrie.{IsUnsignedStored}
use Rattle.icu_trie_binary.specs.WrittenTrie.{why_not_written}
use Rattle.icu_trie_binary.specs.declared.error.WriteError.{WriteError}
use Rattle.icu_trie_builder.specs.Bounds.{IsTooLarge}
use Rattle.icu_trie_builder.specs.Built.{IsWellBuilt}
use Rattle.icu_collections_c.specs.BytesTrie.{fitting_in, value_width}
use Rattle.icu_collections_c.specs.Status.{error_number}
use Rattle.icu_collections_c.specs.declared.building.Row.{Row}
use Rattle.icu_collections_c.specs.declared.error.Error.{Error}
use Rattle.icu_collections_c.specs.declared.error.Error.TheVariants.{InvalidFormat, WideValue, TooLarge, NoMemory}

-- ---- what rows say
-- Whether a row covers c: its first code point is at most 0x10FFFF, and c is between its first and
-- its last code point, both included.
abbrev pub covers : Row → ℕ → Bool
covers row c = nat_le row.first 0x10FFFF && (nat_le row.first c && nat_le c row.last)

-- The value of the last row that covers c. None if no row does.
abbrev pub last_row : List Row → ℕ → Option ℕ
last_row [] c = None
last_row (row ∷ rows) c =
    option_or (last_row rows c) (if covers row c then Some row.value else None)

-- The value that the rows give the code point c: that of the last row that covers it, or else the
-- default.
abbrev pub row_value : List Row → ℕ → ℕ → ℕ
row_value rows default c = unwrap_or (last_row rows c) default

-- The same for any number u: above 0x10FFFF it is the error value.
abbrev pub row_answer : List Row → ℕ → ℕ → ℕ → ℕ
row_answer rows default error u = if nat_le u 0x10FFFF then row_value rows default u else error

-- ---- what the caller asks for
-- The type exists (0 is fast, 1 is small), and so does the width (1, 2 or 4 bytes).
abbrev pub IsForm : ℕ → ℕ → Type 0
IsForm kind width = (kind < 2) × (value_width width ≡ width)

-- Each number that is given is the number of a value: those of the rows, the default and the error
-- value.
pub record AreFitting {T : Type 0} (of_number : ℕ → Option T) (rows : List Row)
    (default error : ℕ) : Type 0 where
  pub of_rows : All (λ row. IsSome (of_number row.value)) rows
  pub of_default : IsSome (of_number default)
  pub of_error : IsSome (of_number error)

-- ---- how large a trie of rows gets
-- The most different blocks that there can be among so many aligned blocks. Each row causes at most
-- three: one with only its value, one at its start and one at its end. One more block has only the
-- default value.
abbrev pub most_blocks : ℕ → ℕ → ℕ
most_blocks count blocks = min (3 * count + 1) blocks

-- The fast limit of a type, by the number of the type.
abbrev pub fast_end : ℕ → ℕ
fast_end kind = if nat_eq kind 0 then 0x10000 else 0x1000

-- The most cells of data that so many rows take: the different blocks of 64 below the fast limit,
-- the different blocks of 16 from there on, and 160 cells that every trie has.
abbrev pub most_data : ℕ → ℕ → ℕ
most_data count limit =
    64 * most_blocks count (limit / 64) + 16 * most_blocks count ((0x110000 - limit) / 16) + 160

-- The most cells of index, by the different blocks of 512 from the fast limit on.
abbrev pub most_index : ℕ → ℕ → ℕ
most_index count limit = 36 * most_blocks count ((0x110000 - limit) / 512) + 3200

-- The most bytes in ICU's binary form: 16 for the header, two for each cell of the index, two more
-- for a cell that may pad the index, and `width` for each cell of the data.
abbrev pub most_bytes : ℕ → ℕ → ℕ → ℕ
most_bytes count kind width =
    16 + 2 * (most_index count (fast_end kind) + 1) + width * most_data count (fast_end kind)

-- ---- what is returned
-- The trie has the type, and its value at every number is the one that the rows give.
pub record IsTrieOf (rows : List Row) (default error kind : ℕ) (t : Parts ℕ) : Type 0 where
  pub of_kind : type_number t.header.trie_type ≡ kind
  pub answers : (u : ℕ) → trie_value t u ≡ Some (row_answer rows default error u)

-- All the bytes together are such a trie in ICU's binary form, with values of `width` bytes. The
-- trie is coherent, so its ranges are the longest runs. There are no more bytes than `most_bytes`
-- allows for the number of rows.
pub record IsBuilt (rows : List Row) (default error kind width : ℕ) (bytes : List ℕ)
    : Type 0 where
  pub trie : Parts ℕ
  pub stored : IsUnsignedStored width bytes trie (length bytes)
  pub of_rows : IsTrieOf rows default error kind trie
  pub coherent : IsCoherentTrie (fitting_in width) trie
  pub size : length bytes ≤ most_bytes (length rows) kind width

-- The builder may reject the rows' map for its size, which never happens for 256 rows or fewer. Or
-- the binary form cannot hold a trie that is well built from the map.
abbrev pub IsTooLargeFor : List Row → ℕ → ℕ → ℕ → ℕ → Type 0
IsTooLargeFor rows default error kind width =
    ((256 < length rows) × IsTooLarge (row_value rows default))
    ⊎ ((t : Parts ℕ) × IsTrieOf rows default error kind t
    × IsWellBuilt (fitting_in width) (row_value rows default) t
    × (why : WriteError) × (why_not_written width (λ n. n) t ≡ Some why))

-- The buffer starts with the bytes if all of them fit. Otherwise the buffer is unchanged.
abbrev pub written_whole : List ℕ → List ℕ → List ℕ
written_whole bytes old =
    if nat_le (length bytes) (length old) then bytes ++ drop (length bytes) old else old

-- n is the number of bytes with property P, and the buffer holds them if all of them fit.
pub record HasBytes (P : List ℕ → Type 0) (old new : List ℕ) (n : ℕ) : Type 0 where
  pub bytes : List ℕ
  pub good : P bytes
  pub count : n ≡ length bytes
  pub buffer : new ≡ written_whole bytes old

-- Why there are no bytes. The reasons are listed in the order in which they are reported.
abbrev pub IsWhyNotBuilt : Type 0 → Type 0 → Type 0 → Error → Type 0
IsWhyNotBuilt form fitting large InvalidFormat = ¬ form
IsWhyNotBuilt form fitting large WideValue = form × ¬ fitting
IsWhyNotBuilt form fitting large TooLarge = form × fitting × large
IsWhyNotBuilt form fitting large NoMemory = form × fitting
IsWhyNotBuilt form fitting large _ = ⊥

-- The number of bytes with property P if the form exists and the values fit. Otherwise the number
-- of the error that says why there are none, and the buffer is unchanged.
abbrev pub AnswersBytes : Type 0 → Type 0 → Type 0 → (List ℕ → Type 0) → List ℕ → List ℕ → ℤ
    → Type 0
AnswersBytes form fitting large P old new returned =
    ((n : ℕ) × (returned ≡ pos n) × form × fitting × HasBytes P old new n)
    ⊎ ((why : Error) × (returned ≡ error_number why) × IsWhyNotBuilt form fitting large why
    × (new ≡ old))
