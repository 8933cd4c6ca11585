-- The table of rows, from that of their writes.
use Rattle.std.proofs.Common.{◌≡◌, ◌⊎◌, ℕ, List, Result, Ok, Err, inl, inr}
use Rattle.std.specs.Prelude.{IfErr, IsErrAnd}
use Rattle.icu_trie_builder.specs.declared.error.BuildError.{BuildError}
use Rattle.icu_trie_builder.specs.declared.error.BuildError.TheVariants.{TooLarge as BuildTooLarge}
use Rattle.icu_trie_builder.specs.declared.writes.Write.{Write}
use Rattle.ucptab_table.specs.TableText.{AreRows}
use Rattle.ucptab_table.specs.declared.error.TableError.TheVariants.{Row, TooLarge, Memory, Read, Write as WriteFailed}
use Rattle.ucptrie_tables.specs.Tables.{IsTableOf, IsTableOfWrites, IsWhyNoTable, IsWhyNoTableOfWrites}
use Rattle.ucptrie_tables.specs.declared.error.TableBuildError.{TableBuildError}
use Rattle.ucptrie_tables.specs.declared.error.TableBuildError.TheVariants.{Table as TableFailed, Width, Binary}
use Rattle.ucptrie_tables.specs.declared.table.Table.{Table}
use Rattle.ucptrie_tables.specs.declared.table.TableOptions.{TableOptions}

-- why an error of the builder is passed on
pub built-why : {V : Type 0} (P : TableBuildError → Type 0) (x : BuildError) (r : Result V TableBuildError)
    → IsErrAnd r (λ e. (e ≡ TableFailed TooLarge → x ≡ BuildTooLarge) × ((e ≡ TableFailed TooLarge) ⊎ (e ≡ TableFailed Memory)))
    → (x ≡ BuildTooLarge → P (TableFailed TooLarge)) → P (TableFailed Memory) → IfErr r P
built-why P x (Ok v) h large memory = tt
built-why P x (Err e) h large memory = elim h.1 [ inl is ↦ rw is (large (h.0 is)) | inr is ↦ rw is memory ]

module _ (input : List ℕ) (writes : List (Write ℕ)) (rows : AreRows input writes) (options : TableOptions) where
  pub table_of_rows : (t : Table) → IsTableOfWrites writes options t → IsTableOf input options t
  table_of_rows t h = record { trie = record { writes = writes; rows = rows; of_writes = h.trie }; width = h.width; fits = h.fits }

  pub why_of_rows : (e : TableBuildError) → IsWhyNoTableOfWrites writes options e → IsWhyNoTable input options e
  why_of_rows (TableFailed (Row k f)) h = absurd h
  why_of_rows (TableFailed TooLarge) h = (writes, (rows, h))
  why_of_rows (TableFailed Memory) h = tt
  why_of_rows (TableFailed Read) h = absurd h
  why_of_rows (TableFailed WriteFailed) h = absurd h
  why_of_rows (Width value width) h = record {
    trie = h.trie;
    of_rows = record { writes = writes; rows = rows; of_writes = h.of_writes };
    asked = h.asked;
    first = h.first;
    wide = h.wide;
    source = h.source;
  }
  why_of_rows (Binary why) h = absurd h
