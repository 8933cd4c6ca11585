-- The row of a range, in one part or in two.
use Rattle.std.proofs.Common.{◌≡◌, ◌<◌, ◌≤◌, ◌∙◌, ◌++◌, [], ◌∷◌, ap, string_bytes}
use Rattle.std.specs.Prelude.{IfOk}
use Rattle.std.proofs.lemmas.Result.{IfOk-weaker}
use Rattle.ucptab_table.specs.TableText.{hex_text}
use Rattle.ucptrie_sets.specs.Rows.{point_row, range_row}
use Rattle.ucptrie_sets.proofs.RowLemmas.{range_row-range, range_row-point}
use Rattle.ucptrie_sets.proofs.rows.push_range.Goals as goal

pub returns-in_ok-push_dotted : goal.returns-in_ok-push_dotted
returns-in_ok-push_dotted c =
    let text = string_bytes c.args.text.now in
    let r = c.args.range.now in
    let some : r.start < r.end = rw (c.start.ensures, c.end.ensures) at c.if-first-last.true in
    let front : string_bytes c.push_dotted.new.text ≡ text ++ (hex_text r.start ++ (46 ∷ (46 ∷ []))) =
    rw c.start.ensures at c.in_ok-push_dotted.ensures in
    let line : IfOk c.push_point.result (λ _.
    string_bytes c.push_point.new.text ≡ string_bytes c.push_dotted.new.text ++ point_row r.end) =
    rw c.end.ensures at c.push_point.ensures in
    IfOk-weaker c.push_point.result (λ _. string_bytes c.push_point.new.text ≡ string_bytes c.push_dotted.new.text ++ point_row r.end)
    (λ _. string_bytes c.push_point.new.text ≡ text ++ range_row r)
    (λ _ e. e ∙ (ap (λ t. t ++ point_row r.end) front ∙ range_row-range text r some)) line

pub returns-else-first-last : goal.returns-else-first-last
returns-else-first-last c =
    let text = string_bytes c.args.text.now in
    let r = c.args.range.now in
    let one : r.end ≤ r.start = rw (c.start.ensures, c.end.ensures) at c.if-first-last.false in
    let line : IfOk c.push_point-else-first-last.result
    (λ _. string_bytes c.push_point-else-first-last.new.text ≡ text ++ point_row r.end)
    = rw c.end.ensures at c.push_point-else-first-last.ensures in
    IfOk-weaker c.push_point-else-first-last.result
    (λ _. string_bytes c.push_point-else-first-last.new.text ≡ text ++ point_row r.end)
    (λ _. string_bytes c.push_point-else-first-last.new.text ≡ text ++ range_row r)
    (λ _ e. e ∙ range_row-point text r one) line
