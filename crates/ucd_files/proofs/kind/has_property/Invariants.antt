use Rattle.std.proofs.Common.{◌≡◌, length}
use Rattle.std.specs.List.{list_any}
use Rattle.std.specs.Str.Lines.{lines}
use Rattle.ucptab_table.specs.TableText.{content_of}
use Rattle.ucd_files.specs.Fields.{field}
use Rattle.ucd_files.specs.Names.{is_same_name}
use Rattle.ucd_files.proofs.kind.has_property.Given as goal

abbrev pub invariant-loop-line : goal.invariant-loop-line
invariant-loop-line l =
    list_any (λ line. is_same_name (field 1 (content_of line)) l.property) (lines l.rest)
    ≡ list_any (λ line. is_same_name (field 1 (content_of line)) l.property) (lines l.input)

abbrev pub decreases-loop-line : goal.decreases-loop-line
decreases-loop-line l = length l.rest
