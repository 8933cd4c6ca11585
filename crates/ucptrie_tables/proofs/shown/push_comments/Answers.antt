use Rattle.std.proofs.Common.{◌∷◌, Some, lit<, string_bytes}
use Rattle.std.proofs.lemmas.Str.{IsUtf8-drop}
use Rattle.std.proofs.lemmas.Str.Pattern.{split_parts}
use Rattle.ucptrie_tables.proofs.ShownLemmas.{AddsComments-more, AddsComments-none, one_line-blank, one_line-parts}
use Rattle.ucptrie_tables.proofs.shown.push_comments.Goals as goal

pub loop-line-init : goal.loop-line-init
loop-line-init c = record { added = AddsComments-none _; utf8 = c.utf8.lines }

pub loop-line-preserved : goal.loop-line-preserved
loop-line-preserved c =
    let cases = c.in-Some.ensures.cases in
    let parts = split_parts 10 c.loop-line.rest.now (Some (c.in-Some.line, c.in-Some.others)) c.in-Some.ensures.cases (lit< tt) in
    record {
      added = AddsComments-more _ (string_bytes c.loop-line.text) _ (32 ∷ c.in-Some.line.now) c.loop-line.invariant.added
          (one_line-blank c.in-Some.line.now (one_line-parts c.in-Some.line.now parts.1)) c.in_ok-push_comment.ensures;
      utf8 = let at = cases.2.1 in rw cases.4 (IsUtf8-drop c.loop-line.rest.now cases.1 c.loop-line.invariant.utf8 (rw at.ends at.after));
    }
