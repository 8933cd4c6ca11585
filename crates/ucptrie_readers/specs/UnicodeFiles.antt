-- The table of a file of the Unicode Character Database.
use Rattle.std.specs.Prelude.{ℕ, List, ⊤}
use Rattle.ucd_files.specs.Files.{AreStatements, IsFirstFault, IsUnfinished, writes_of}
use Rattle.ucd_files.specs.declared.error.FileError.TheVariants.{Line, Unfinished, Memory}
use Rattle.ucd_files.specs.declared.names.Numbering.{Numbering}
use Rattle.ucd_files.specs.declared.statement.Columns.{Columns}
use Rattle.ucd_files.specs.declared.statement.Statement.{Statement}
use Rattle.ucptrie_tables.specs.Tables.{IsTableOfWrites, IsWhyNoTableOfWrites}
use Rattle.ucptrie_readers.specs.declared.error.UnicodeFileError.{UnicodeFileError}
use Rattle.ucptrie_readers.specs.declared.error.UnicodeFileError.TheVariants.{File, Build}
use Rattle.ucptrie_tables.specs.declared.table.Table.{Table}
use Rattle.ucptrie_tables.specs.declared.table.TableOptions.{TableOptions}

module _ (columns : Columns) (numbering : Numbering) (file : List ℕ) (options : TableOptions) where
  -- No line of the file has a fault. The table is that of what its lines say and of the options: a
  -- code point has the value of the last line that covers it, or else of the last `@missing` line
  -- that covers it, or else the default.
  pub record IsTableOfFile (t : Table) : Type 0 where
    pub statements : List Statement
    pub said : AreStatements columns numbering file statements
    pub table : IsTableOfWrites (writes_of statements) options t

  -- Why a file makes no table: the first line that has a fault; a range that is not finished; or
  -- what its lines say makes none. No clause can say when an allocation fails.
  abbrev pub IsWhyNoTableOfFile : UnicodeFileError → Type 0
  IsWhyNoTableOfFile (File (Line k f)) = IsFirstFault columns numbering file k f
  IsWhyNoTableOfFile (File Unfinished) = IsUnfinished columns numbering file
  IsWhyNoTableOfFile (File Memory) = ⊤
  IsWhyNoTableOfFile (Build fault) = (statements : List Statement)
      × (AreStatements columns numbering file statements)
      × IsWhyNoTableOfWrites (writes_of statements) options fault
