-- A set in TOML, as ICU's icuexportdata writes it.
use Rattle.std.specs.Prelude.{ℕ, List, [], ◌∷◌, ◌++◌, codes}
use Rattle.std.specs.List.{flat_map}
use Rattle.std.specs.declared.ops.RangeInclusive.{RangeInclusive}
use Rattle.icu_invlist.specs.InversionList.{ranges_of}
use Rattle.ucptab_table.specs.Patterns.{filled, named}
use Rattle.ucptab_table.specs.declared.pattern.Number.TheVariants.{Hexadecimal}

-- What precedes the ranges: a property with this long and short name.
unfoldable pub toml_head : List ℕ → List ℕ
toml_head name = named name
    (codes "[[binary_property]]\nlong_name = \"@\"\nshort_name = \"@\"\n"
    ++ codes "# Inclusive ranges of the code points in the set.\nranges = [\n")

-- The line of a range.
unfoldable pub toml_range : RangeInclusive ℕ → List ℕ
toml_range r = filled [] (Hexadecimal r.start ∷ Hexadecimal r.end ∷ []) (codes "  [%, %],\n")

-- The lines of the set's ranges, in order.
abbrev pub toml_ranges : List ℕ → List ℕ
toml_ranges set = flat_map toml_range (ranges_of set)

-- A set in TOML.
abbrev pub toml_text : List ℕ → List ℕ → List ℕ
toml_text name set = toml_head name ++ toml_ranges set ++ codes "]\n"
