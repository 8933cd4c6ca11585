-- What a file says: the writes of its lines.
use Rattle.std.specs.Prelude.{◌≡◌, ℕ, ◌<◌, ◌-◌, Bool, true, false, List, [], ◌∷◌, ◌++◌, take, slice_get, Option, Some, None, Result, Ok, Err, IsOk, IsSomeAnd, All}
use Rattle.std.specs.List.{filter_map}
use Rattle.std.specs.Str.Lines.{lines}
use Rattle.icu_trie_builder.specs.declared.writes.Write.{Write}
use Rattle.ucd_files.specs.Fields.{ends_in_first}
use Rattle.ucd_files.specs.Statements.{statement_of}
use Rattle.ucd_files.specs.declared.error.LineError.{LineError}
use Rattle.ucd_files.specs.declared.names.Numbering.{Numbering}
use Rattle.ucd_files.specs.declared.statement.Columns.{Columns}
use Rattle.ucd_files.specs.declared.statement.Columns.TheVariants.{UnicodeData}
use Rattle.ucd_files.specs.declared.statement.Statement.{Statement}
use Rattle.ucd_files.specs.declared.statement.Statement.TheVariants.{Missing, Explicit}

-- Each line with the line before it, which is empty for the first line.
abbrev pub with_previous : List ℕ → List (List ℕ) → List (List ℕ × List ℕ)
with_previous previous [] = []
with_previous previous (line ∷ more) = (previous, line) ∷ with_previous line more

-- The lines of a file, each with the line before it.
abbrev pub paired_lines : List ℕ → List (List ℕ × List ℕ)
paired_lines input = with_previous [] (lines input)

-- The last line, which is empty if there is none.
abbrev pub last_line : List ℕ → List (List ℕ) → List ℕ
last_line previous [] = previous
last_line previous (line ∷ more) = last_line line more

-- The file ends in the middle of a range of UnicodeData.txt.
abbrev pub is_open : Columns → List ℕ → Bool
is_open (UnicodeData n) line = ends_in_first line
is_open columns line = false

-- The write of a statement about code points without a line of their own.
abbrev pub missing_write : Statement → Option (Write ℕ)
missing_write (Missing write) = Some write
missing_write (Explicit write) = None

-- The write of a statement about the code points of its line.
abbrev pub explicit_write : Statement → Option (Write ℕ)
explicit_write (Missing write) = None
explicit_write (Explicit write) = Some write

module _ (columns : Columns) (numbering : Numbering) where
  -- What a line with the line before it says.
  abbrev pub read_pair : List ℕ × List ℕ → Result (Option Statement) LineError
  read_pair pair = statement_of columns numbering pair.0 pair.1

  -- The statement of a line, if it has one.
  abbrev pub statement_or_none : Result (Option Statement) LineError → Option Statement
  statement_or_none (Ok said) = said
  statement_or_none (Err fault) = None

  -- A line without a fault.
  abbrev pub IsFaultless : List ℕ × List ℕ → Type 0
  IsFaultless pair = IsOk (read_pair pair)

  -- No line has a fault, no range is left open, and these are the statements of the lines in order.
  pub record AreStatements (input : List ℕ) (statements : List Statement) : Type 0 where
    pub faultless : All IsFaultless (paired_lines input)
    pub whole : is_open columns (last_line [] (lines input)) ≡ false
    pub said : statements
        ≡ filter_map (λ pair. statement_or_none (read_pair pair)) (paired_lines input)

  -- No line has a fault, and the last one leaves a range open.
  pub record IsUnfinished (input : List ℕ) : Type 0 where
    pub faultless : All IsFaultless (paired_lines input)
    pub left_open : is_open columns (last_line [] (lines input)) ≡ true

  -- Line k, counted from 1, has the fault f, and no line before it has one.
  pub record IsFirstFault (input : List ℕ) (k : ℕ) (f : LineError) : Type 0 where
    pub counted : 0 < k
    pub faulty : IsSomeAnd (slice_get (paired_lines input) (k - 1)) (λ pair. read_pair pair ≡ Err f)
    pub faultless_before : All IsFaultless (take (k - 1) (paired_lines input))

-- The writes of a file: first those of its `@missing` lines, then those of its other lines, each
-- in the order of the lines. So a line of its own comes before an `@missing` line, and of two lines
-- of a kind the later one counts.
abbrev pub writes_of : List Statement → List (Write ℕ)
writes_of statements = filter_map missing_write statements ++ filter_map explicit_write statements
