use Rattle.std.proofs.Common.{◌≡◌, ◌≤◌, ◌+◌, [], length, take, drop}
use Rattle.std.specs.Prelude.{All}
use Rattle.std.specs.List.{filter_map}
use Rattle.std.specs.Str.Lines.{lines}
use Rattle.ucd_files.specs.Files.{IsFaultless, last_line, paired_lines, read_pair, statement_or_none, with_previous}
use Rattle.ucd_files.proofs.read.read_statements.Given as goal

abbrev pub invariant-loop-line : goal.invariant-loop-line
invariant-loop-line l =
    let seen = take l.number (paired_lines l.input) in
    record {
      left : drop l.number (paired_lines l.input) ≡ with_previous l.previous (lines l.rest);
      room : l.number + length l.rest ≤ length l.input;
      faultless : All (IsFaultless l.columns l.numbering) seen;
      said : l.said.items ≡ filter_map (λ pair. statement_or_none l.columns l.numbering (read_pair l.columns l.numbering pair)) seen;
      last : last_line [] (lines l.input) ≡ last_line l.previous (lines l.rest);
    }

abbrev pub decreases-loop-line : goal.decreases-loop-line
decreases-loop-line l = length l.rest
