-- The properties of a joined table as source.
use Rattle.std.specs.Prelude.{ℕ, ◌==◌, List, [], ◌∷◌, string_bytes, if◌then◌else◌}
use Rattle.ucptrie_tables.specs.Source.{cells_from}
use Rattle.ucptrie_names.specs.declared.value_names.EnumValue.{EnumValue}

-- Numbers as the cells of an array, sixteen to a line.
abbrev pub cells_text : List ℕ → List ℕ
cells_text numbers = cells_from [] 0 numbers

-- The identifier of the first value with this number, or nothing if no value has it.
abbrev pub identifier_of : List EnumValue → ℕ → List ℕ
identifier_of [] number = []
identifier_of (v ∷ values) number =
    if v.number == number then string_bytes v.identifier else identifier_of values number
