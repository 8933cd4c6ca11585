use Rattle.std.proofs.Common.{[], List, drop, take}
use Rattle.std.specs.List.{FoldsTo}
use Rattle.ucptrie_names.specs.declared.value_names.EnumValue.{EnumValue}
use Rattle.ucptrie_names.specs.ValueIdentifiers.{listed, AreValuesOf, IsWithValue}
use Rattle.ucptrie_names.proofs.value_names.enum_values.Given as goal

-- what the names from here on add to the values gives those of all names
abbrev pub invariant-loop-i : goal.invariant-loop-i
invariant-loop-i l = (all : List EnumValue)
    → FoldsTo (IsWithValue l.is_rust) l.values.items (listed l.highest (take l.i l.names) (drop l.i l.names)) all
    → AreValuesOf l.is_rust (listed l.highest [] l.names) all
