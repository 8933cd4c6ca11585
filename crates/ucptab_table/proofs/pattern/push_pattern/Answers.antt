use Rattle.std.proofs.Common.{Some, None, lit<, refl, rules, string_bytes}
use Rattle.std.proofs.lemmas.Str.{IsUtf8-drop}
use Rattle.std.proofs.lemmas.Str.Pattern.{split_parts}
use Rattle.ucptab_table.proofs.PatternLemmas.{filled-more, filled-last}
use Rattle.ucptab_table.proofs.pattern.push_pattern.Goals as goal

pub loop-piece-init : goal.loop-piece-init
loop-piece-init c = record { whole = refl; utf8 = c.utf8.pattern }

pub loop-piece-preserved : goal.loop-piece-preserved
loop-piece-preserved c =
    let cases = c.in-Some.ensures.cases in
    let rest = c.loop-piece.rest.now in
    let parts = split_parts 37 rest (Some (c.in-Some.piece, c.in-Some.others)) cases (lit< tt) in
    record {
      whole = rw c.in_ok-left.ensures.others (filled-more c.args.name.now c.loop-piece.left.now _ (string_bytes c.loop-piece.text)
          (string_bytes c.push_named.new.text) _ rest c.in-Some.piece.now c.in-Some.others.now (search rules) (search rules)
          parts.0 parts.1 c.loop-piece.invariant.whole);
      utf8 = let at = cases.2.1 in rw cases.4 (IsUtf8-drop rest cases.1 c.loop-piece.invariant.utf8 (rw at.ends at.after));
    }

pub returns : goal.returns
returns c =
    let rest = c.loop-piece.rest.now in
    let parts = split_parts 37 rest None (rw c.in_default.is at c.split_once.ensures.cases) (lit< tt) in
    filled-last c.push_named-2.result c.args.name.now c.loop-piece.left.now _ (string_bytes c.loop-piece.text)
    (string_bytes c.push_named-2.new.text) rest c.push_named-2.ensures parts c.loop-piece.invariant.whole
