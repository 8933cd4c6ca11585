use Rattle.std.proofs.Common.{◌+◌, ◌<◌, ◌≡◌, ◌++◌, map, string_bytes}
use Prim.Native.Nat.{◌^◌}
use Rattle.icu_zerovec.specs.Slice.{slice_values}
use Rattle.ucptrie_tables.specs.Source.{cells_from}
use Rattle.ucptrie_forms.proofs.cells.push_cells.Given as goal

-- the text so far and the cells that are left give the whole
abbrev pub invariant-loop-i : goal.invariant-loop-i
invariant-loop-i g l = record {
  fits : l.i + (goal.iterator-loop-i g).remaining l.cell-iterator < 2 ^ 64;
  whole : string_bytes l.text ++ cells_from l.indent l.i (map g.T.TrieValue.number l.cell-iterator)
      ≡ string_bytes l.initial.text ++ cells_from l.indent 0 (map g.T.TrieValue.number (slice_values l.fn.cells));
}
