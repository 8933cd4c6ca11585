use Rattle.std.proofs.Common.{Some, None, lit<, refl, rules, string_bytes}
use Rattle.std.proofs.lemmas.Str.{IsUtf8-drop}
use Rattle.std.proofs.lemmas.Str.Pattern.{split_parts}
use Rattle.ucptab_table.proofs.PatternLemmas.{named-more, named-last}
use Rattle.ucptab_table.proofs.pattern.push_named.Goals as goal

pub loop-piece-init : goal.loop-piece-init
loop-piece-init c = record { whole = refl; utf8 = c.utf8.pattern }

pub loop-piece-preserved : goal.loop-piece-preserved
loop-piece-preserved c =
    let cases = c.in-Some.ensures.cases in
    let rest = c.loop-piece.rest.now in
    let parts = split_parts 64 rest (Some (c.in-Some.piece, c.in-Some.others)) cases (lit< tt) in
    record {
      whole = named-more c.args.name.now _ (string_bytes c.loop-piece.text) (string_bytes c.push_str.new.self) _ rest
          c.in-Some.piece.now c.in-Some.others.now (search rules) (search rules) parts.0 parts.1 c.loop-piece.invariant.whole;
      utf8 = let at = cases.2.1 in rw cases.4 (IsUtf8-drop rest cases.1 c.loop-piece.invariant.utf8 (rw at.ends at.after));
    }

pub returns : goal.returns
returns c =
    let rest = c.loop-piece.rest.now in
    let parts = split_parts 64 rest None (rw c.in_default.is at c.split_once.ensures.cases) (lit< tt) in
    named-last _ c.args.name.now _ (string_bytes c.loop-piece.text) _ rest c.push_str-2.ensures.bytes parts c.loop-piece.invariant.whole
