use Rattle.std.proofs.Common.{◌≡◌, ◌++◌, ◌+◌, ◌≤◌, length}
use Rattle.std.specs.Prelude.{map}
use Rattle.std.specs.List.{filter}
use Rattle.std.specs.Str.Lines.{lines}
use Rattle.ucptab_table.specs.TableText.{content_of}
use Rattle.ucd_files.specs.Names.{pairs_of}
use Rattle.ucd_files.specs.ValueNames.{alias_names, is_value_line, names_from}
use Rattle.ucd_files.proofs.aliases.alias_names.Given as goal

abbrev pub invariant-loop-line : goal.invariant-loop-line
invariant-loop-line l =
    record {
      names : pairs_of l.names ++ names_from l.k (map content_of (filter (is_value_line l.property) (lines l.rest)))
          ≡ alias_names l.property l.input;
      room : l.k + length l.rest ≤ length l.input;
    }

abbrev pub decreases-loop-line : goal.decreases-loop-line
decreases-loop-line l = length l.rest
