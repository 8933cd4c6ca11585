-- The line of a range, in one part or in two.
use Rattle.std.proofs.Common.{◌≡◌, ◌<◌, ◌≤◌, ◌∙◌, ◌++◌, [], ◌∷◌, ap, string_bytes}
use Rattle.std.specs.Prelude.{IfOk}
use Rattle.std.proofs.lemmas.Result.{IfOk-weaker}
use Rattle.ucptab_table.proofs.Printed.{run_line-range, run_line-point}
use Rattle.ucptab_table.specs.TableText.{answer_line, hex_text, run_line}
use Rattle.ucptab_table.specs.Inside.Ranges.{run_of_values}
use Rattle.ucptab_table.proofs.text.push_range.Goals as goal

pub returns-in_ok-push_dotted : goal.returns-in_ok-push_dotted
returns-in_ok-push_dotted c =
    let text = string_bytes c.args.text.now in
    let run = run_of_values c.args.range.now in
    let some : run.first < run.last = rw (c.start.ensures, c.end.ensures) at c.if-first-last.true in
    let front : string_bytes c.push_dotted.new.text ≡ text ++ (hex_text run.first ++ (46 ∷ (46 ∷ []))) =
    rw c.start.ensures at c.in_ok-push_dotted.ensures in
    let line : IfOk c.push_answer.result (λ _.
    string_bytes c.push_answer.new.text ≡ string_bytes c.push_dotted.new.text ++ answer_line run.last run.value) =
    rw c.end.ensures at c.push_answer.ensures in
    IfOk-weaker c.push_answer.result (λ _. string_bytes c.push_answer.new.text ≡ string_bytes c.push_dotted.new.text ++ answer_line run.last
    run.value)
    (λ _. string_bytes c.push_answer.new.text ≡ text ++ run_line run)
    (λ _ e. e ∙ (ap (λ t. t ++ answer_line run.last run.value) front ∙ run_line-range text run some)) line

pub returns-else-first-last : goal.returns-else-first-last
returns-else-first-last c =
    let text = string_bytes c.args.text.now in
    let run = run_of_values c.args.range.now in
    let one : run.last ≤ run.first = rw (c.start.ensures, c.end.ensures) at c.if-first-last.false in
    let line : IfOk c.push_answer-else-first-last.result
    (λ _. string_bytes c.push_answer-else-first-last.new.text ≡ text ++ answer_line run.last run.value)
    = rw c.end.ensures at c.push_answer-else-first-last.ensures in
    IfOk-weaker c.push_answer-else-first-last.result
    (λ _. string_bytes c.push_answer-else-first-last.new.text ≡ text ++ answer_line run.last run.value)
    (λ _. string_bytes c.push_answer-else-first-last.new.text ≡ text ++ run_line run)
    (λ _ e. e ∙ run_line-point text run one) line
