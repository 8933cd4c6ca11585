-- The line of a difference, in one part or in two.
use Rattle.std.proofs.Common.{◌≡◌, ◌<◌, ◌≤◌, ◌∙◌, ◌++◌, [], ◌∷◌, ap, string_bytes}
use Rattle.std.specs.Prelude.{IfOk}
use Rattle.std.proofs.lemmas.Result.{IfOk-weaker}
use Rattle.icu_trie_core.specs.Range.{first_of, last_of}
use Rattle.ucptab_table.specs.TableText.{hex_text}
use Rattle.ucptrie_tables.specs.Differences.{difference_line, values_text}
use Rattle.ucptrie_tables.proofs.Printed.{difference_line-range, difference_line-point}
use Rattle.ucptrie_tables.proofs.diff.push_difference.Goals as goal

pub returns-in_ok-push_dotted : goal.returns-in_ok-push_dotted
returns-in_ok-push_dotted c =
    let text = string_bytes c.args.text.now in
    let d = c.args.difference.now in
    let some : first_of d < last_of d = rw (c.start.ensures, c.end.ensures) at c.if-start-end.true in
    let front : string_bytes c.push_dotted.new.text ≡ text ++ (hex_text (first_of d) ++ (46 ∷ (46 ∷ []))) =
    rw c.start.ensures at c.in_ok-push_dotted.ensures in
    let line : IfOk c.push_values.result (λ _.
    string_bytes c.push_values.new.text ≡ string_bytes c.push_dotted.new.text ++ (hex_text (last_of d) ++ values_text d.value)) =
    rw c.end.ensures at c.push_values.ensures in
    IfOk-weaker c.push_values.result (λ _.
    string_bytes c.push_values.new.text ≡ string_bytes c.push_dotted.new.text ++ (hex_text (last_of d) ++ values_text d.value))
    (λ _. string_bytes c.push_values.new.text ≡ text ++ difference_line d)
    (λ _ e. e ∙ (ap (λ t. t ++ (hex_text (last_of d) ++ values_text d.value)) front ∙ difference_line-range text d some)) line

pub returns-else-start-end : goal.returns-else-start-end
returns-else-start-end c =
    let text = string_bytes c.args.text.now in
    let d = c.args.difference.now in
    let one : last_of d ≤ first_of d = rw (c.start.ensures, c.end.ensures) at c.if-start-end.false in
    let line : IfOk c.push_values-else-start-end.result
    (λ _. string_bytes c.push_values-else-start-end.new.text ≡ text ++ (hex_text (last_of d) ++ values_text d.value)) =
    rw c.end.ensures at c.push_values-else-start-end.ensures in
    IfOk-weaker c.push_values-else-start-end.result
    (λ _. string_bytes c.push_values-else-start-end.new.text ≡ text ++ (hex_text (last_of d) ++ values_text d.value))
    (λ _. string_bytes c.push_values-else-start-end.new.text ≡ text ++ difference_line d)
    (λ _ e. e ∙ difference_line-point text d one) line
