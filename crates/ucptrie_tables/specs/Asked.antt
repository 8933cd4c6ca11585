-- The numbers that fields and texts ask for.
use Rattle.std.specs.Prelude.{◌≡◌, ℕ, zero, suc, ◌+◌, ◌-◌, ◌<◌, nat_le, nat_lt, ◌&&◌, ◌==◌, true, List, [], ◌∷◌, ◌++◌, length, take, slice_get, All, Option, Some, None, is_some, IsSomeAnd, unwrap_or, ⊤, if◌then◌else◌}
use Rattle.std.specs.List.{flat_map}
use Rattle.std.specs.Option.{option_and_then}
use Rattle.std.specs.Str.Lines.{lines}
use Rattle.ucptab_table.specs.TableText.{code_points_of, content_of}
use Rattle.ucptab_table.specs.declared.rows.CodePoints.{CodePoints}
use Rattle.ucptab_table.specs.declared.rows.CodePoints.TheVariants.{Single, Span}
use Rattle.ucptrie_tables.specs.declared.asked.AskedError.{AskedError}
use Rattle.ucptrie_tables.specs.declared.asked.AskedError.TheVariants.{Line, Memory}

-- So many numbers from the first one on, in ascending order.
abbrev pub numbers_from : ℕ → ℕ → List ℕ
numbers_from first zero = []
numbers_from first (suc count) = first ∷ numbers_from (first + 1) count

-- The numbers of a field: one, or those of a range. A range is not reversed and ends at or below
-- 0x10FFFF.
abbrev pub asked_in : CodePoints → Option (List ℕ)
asked_in (Single c) = Some (c ∷ [])
asked_in (Span first last) =
    if nat_le first last && nat_lt last 0x110000
    then Some (numbers_from first ((last + 1) - first)) else None

-- The same of the bytes `HEX` or `HEX..HEX`; none for any other bytes.
abbrev pub asked_by : List ℕ → Option (List ℕ)
asked_by field = option_and_then asked_in (code_points_of field)

-- The numbers of a line, which are none if it is blank or a comment.
unfoldable pub asked_by_line : List ℕ → Option (List ℕ)
asked_by_line line =
    let content = content_of line in
    if length content == 0 then Some [] else asked_by content

-- The line is one of these.
abbrev pub IsAsking : List ℕ → Type 0
IsAsking line = is_some (asked_by_line line) ≡ true

-- Each line is one of these, and their numbers are appended, in order.
pub record AreAsked (text old new : List ℕ) : Type 0 where
  pub all : All IsAsking (lines text)
  pub numbers : new ≡ old ++ flat_map (λ line. unwrap_or (asked_by_line line) []) (lines text)

-- Line k, counted from 1, is none of these, and each line before it is one.
pub record IsFirstUnasked (text : List ℕ) (k : ℕ) : Type 0 where
  pub counted : 0 < k
  pub unasked : IsSomeAnd (slice_get (lines text) (k - 1)) (λ line. asked_by_line line ≡ None)
  pub before : All IsAsking (take (k - 1) (lines text))

-- Why a text asks for no numbers. No clause can say when an allocation fails.
abbrev pub IsWhyNotAsked : List ℕ → AskedError → Type 0
IsWhyNotAsked text (Line k) = IsFirstUnasked text k
IsWhyNotAsked text Memory = ⊤
