-- Several tables in one: the combinations of values that occur.
use Rattle.std.specs.Prelude.{◌≡◌, ◌≢◌, ◌⊎◌, ℕ, ◌<◌, List, [], ◌∷◌, ◌++◌, Option, Some, length, map, slice_get}
use Rattle.icu_zerovec.specs.CodePoints.{code_point_limit}
use Rattle.icu_trie.specs.Parts.{trie_value}
use Rattle.icu_trie_builder.specs.Writes.{last_written}
use Rattle.icu_trie_builder.specs.declared.writes.Write.{Write}
use Rattle.ucptrie_tables.specs.declared.join.Join.{Join}
use Rattle.ucptrie_tables.specs.declared.table.Table.{Table}

module _ (columns : List Table) where
  -- The combination of a code point: its value in each table.
  abbrev pub row_at : ℕ → List (Option ℕ)
  row_at u = map (λ t. trie_value t.trie u) columns

  -- None of these code points has the combination of c.
  abbrev pub IsNew : List ℕ → ℕ → Type 0
  IsNew firsts c = (i f : ℕ) → slice_get firsts i ≡ Some f → row_at f ≢ row_at c

  -- The number of the combination of c is its position in a list of code points with different
  -- combinations, to which c is appended if none of them has its combination.
  pub record IsNumbered (firsts : List ℕ) (c : ℕ) (all : List ℕ) (n : ℕ) : Type 0 where
    pub first : ℕ
    pub at : slice_get all n ≡ Some first
    pub same : row_at first ≡ row_at c
    pub list : (all ≡ firsts)
        ⊎ ((all ≡ firsts ++ c ∷ []) × ((n ≡ length firsts) × IsNew firsts c))

  -- The combinations that occur below `end`, by the first code point that has each, and the writes
  -- that give each code point below `end` the number of its combination.
  pub record IsJoinTo (end : ℕ) (firsts : List ℕ) (writes : List (Write ℕ)) : Type 0 where
    -- Each code point has a number: that of the combination of its values.
    pub values : (u : ℕ) → u < end → (n : ℕ) × ((last_written writes u ≡ Some n)
        × ((f : ℕ) × ((slice_get firsts n ≡ Some f) × (row_at f ≡ row_at u))))
    -- Different numbers have different combinations.
    pub apart : (n m f g : ℕ) → slice_get firsts n ≡ Some f → slice_get firsts m ≡ Some g
        → row_at f ≡ row_at g → n ≡ m
    -- Each number occurs: the first code point of its combination has it.
    pub occurs : (n f : ℕ) → slice_get firsts n ≡ Some f
        → (f < end) × (last_written writes f ≡ Some n)
    -- Numbers are in order of these code points: those before one have smaller numbers.
    pub ordered : (n f u m : ℕ) → slice_get firsts n ≡ Some f → u < f
        → last_written writes u ≡ Some m → m < n

  -- The combinations of all code points.
  abbrev pub IsJoin : Join → Type 0
  IsJoin join = IsJoinTo code_point_limit join.firsts.items join.writes.items
