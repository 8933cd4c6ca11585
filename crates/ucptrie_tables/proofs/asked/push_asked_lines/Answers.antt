use Rattle.std.proofs.Common.{◌≡◌, [], None, ◌∙◌, arith, rules}
use Rattle.std.specs.Str.Lines.{lines}
use Rattle.ucptab_table.proofs.CallerLemmas.{left_after}
use Rattle.ucptrie_tables.specs.Asked.{asked_by_line, IsAsking}
use Rattle.ucptrie_tables.proofs.AskedLemmas.{asking_more, numbers_more, first_unasked, all_asked, none-false}
use Rattle.ucptrie_tables.proofs.asked.push_asked_lines.Goals as goal

pub loop-line-preserved : goal.loop-line-preserved
loop-line-preserved c =
    let text = c.args.text.now in
    let left = c.loop-line.invariant.left ∙ c.in-Some.ensures.some in
    let asks : IsAsking c.in-Some.line.now = search rules in
    record {
      left = left_after (lines text) _ _ _ left;
      room = omega (arith, c.in-Some.ensures.shorter, c.loop-line.invariant.room);
      asking = asking_more text _ _ _ left asks c.loop-line.invariant.asking;
      numbers = numbers_more text _ _ _ left c.args.asked.now.items c.loop-line.asked.items _ c.loop-line.invariant.numbers (search rules);
    }

pub returns-in-Ok-false-clause-err : goal.returns-in-Ok-false-clause-err
returns-in-Ok-false-clause-err c =
    let left = c.loop-line.invariant.left ∙ c.in-Some.ensures.some in
    let none : asked_by_line c.in-Some.line.now ≡ None = none-false _ (search rules) in
    first_unasked c.args.text.now _ _ _ left none c.loop-line.invariant.asking

pub returns-clause-ok : goal.returns-clause-ok
returns-clause-ok c =
    let none : lines c.loop-line.rest.now ≡ [] = search rules in
    all_asked c.args.text.now c.loop-line.number _ _ (c.loop-line.invariant.left ∙ none) c.loop-line.invariant.asking
    c.loop-line.invariant.numbers
