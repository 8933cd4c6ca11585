-- A trie that has the numbers of another one as values of its own type, and why there is none.
use Rattle.std.specs.Prelude.{◌≡◌, ℕ, ◌^◌, List, ◌∷◌, map, is_none, Option, Some, option_map, ⊤}
use Rattle.std.specs.List.{find}
use Rattle.icu_trie_core.specs.ValueNumbers.{fitting}
use Rattle.icu_trie.specs.Parts.{Parts, last_cell}
use Rattle.icu_trie.specs.Conversion.{with_null_value}
use Rattle.icu_trie.specs.declared.map_value.MapError.{MapError}
use Rattle.icu_trie.specs.declared.map_value.MapError.TheVariants.{Closure, Memory as MapMemory}
use Rattle.icu_trie_binary.specs.WrittenTrie.{why_not_written}
use Rattle.ucptab_table.specs.declared.error.TableError.TheVariants.{Memory}
use Rattle.ucptrie_tables.specs.declared.error.TableBuildError.{TableBuildError}
use Rattle.ucptrie_tables.specs.declared.error.TableBuildError.TheVariants.{Table as TableFailed, Width, Binary}
use Rattle.ucptrie_tables.specs.declared.table.Table.{Table}

-- The values of t are those of the numbers of p's values, cell by cell, and so is its null value;
-- number gives the number of a value of p, of_number the value of a number in t, and new_number the
-- number of a value of t.
pub record HasNumbersOf {T P : Type 0} (number : T → ℕ) (old_of_number : ℕ → Option T)
    (new_number : P → ℕ) (of_number : ℕ → Option P) (p : Parts T) (t : Parts P) : Type 0 where
  pub index : t.index ≡ p.index
  pub values : map Some t.values ≡ map (λ v. of_number (number v)) p.values
  pub old_null : T
  pub old_null_is : old_of_number p.header.null_value ≡ Some old_null
  pub null : P
  pub null_is : of_number (number old_null) ≡ Some null
  pub header : t.header ≡ with_null_value p.header (new_number null)

-- The number of the first of these values whose number no value of the other type has, if there is
-- one.
abbrev pub first_without : {T P : Type 0} → (T → ℕ) → (ℕ → Option P) → List T → Option ℕ
first_without number of_number values =
    option_map number (find (λ v. is_none (of_number (number v))) values)

-- Of the error value, the null value and the cells of p, in this order, the first whose number no
-- value of the other type has, has the number n.
pub record IsFirstWithout {T P : Type 0} (number : T → ℕ) (old_of_number : ℕ → Option T)
    (of_number : ℕ → Option P) (p : Parts T) (n : ℕ) : Type 0 where
  pub error : T
  pub error_is : last_cell p.values ≡ Some error
  pub null : T
  pub null_is : old_of_number p.header.null_value ≡ Some null
  pub first : first_without number of_number (error ∷ null ∷ p.values) ≡ Some n

-- Why there is no trie of another type with the numbers of p. No clause can say when an allocation
-- fails.
abbrev pub IsWhyNoNumbers : {T P : Type 0} → (T → ℕ) → (ℕ → Option T) → (ℕ → Option P) → Parts T
    → MapError ℕ → Type 0
IsWhyNoNumbers number old_of_number of_number p (Closure n) =
    IsFirstWithout number old_of_number of_number p n
IsWhyNoNumbers number old_of_number of_number p MapMemory = ⊤

-- Why a table is not written in the binary form over values of another type, which take so many
-- bytes.
abbrev pub IsWhyNotNarrowed : {P : Type 0} → ℕ → (P → ℕ) → (ℕ → Option P) → Table → TableBuildError
    → Type 0
IsWhyNotNarrowed bytes number of_number t (TableFailed Memory) = ⊤
IsWhyNotNarrowed bytes number of_number t (TableFailed _) = ⊥
IsWhyNotNarrowed bytes number of_number t (Width value width) =
    (width ≡ t.width) × IsFirstWithout (λ n. n) (fitting (2 ^ 32)) of_number t.trie value
IsWhyNotNarrowed {P} bytes number of_number t (Binary why) = (narrowed : Parts P)
    × (HasNumbersOf (λ n. n) (fitting (2 ^ 32)) number of_number t.trie narrowed
    × (why_not_written bytes number narrowed ≡ Some why))
