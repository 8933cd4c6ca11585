use Rattle.std.proofs.Common.{◌≡◌, length}
use Rattle.std.specs.List.{list_any}
use Rattle.std.specs.Str.Lines.{lines}
use Rattle.ucptab_table.specs.TableText.{content_of}
use Rattle.ucd_files.specs.Fields.{has_field}
use Rattle.ucd_files.specs.Kinds.{has_fields}
use Rattle.ucd_files.proofs.kind.has_fields.Given as goal

abbrev pub invariant-loop-line : goal.invariant-loop-line
invariant-loop-line l =
    list_any (λ line. has_field 1 (content_of line)) (lines l.rest) ≡ has_fields l.input

abbrev pub decreases-loop-line : goal.decreases-loop-line
decreases-loop-line l = length l.rest
