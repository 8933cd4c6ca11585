-- The contents of a view of packed bytes.
use Rattle.std.specs.Prelude.{List}
use Rattle.icu_zerovec.specs.Cells.{values_of}
use Rattle.icu_zerovec.specs.declared.slice.ZeroSlice.{ZeroSlice}

-- The list of the values of a view.
abbrev pub slice_values : {T : Type 0} {m : _} → ZeroSlice T m → List T
slice_values {T} {m} s = values_of m.unpack m.WIDTH s.bytes.now
