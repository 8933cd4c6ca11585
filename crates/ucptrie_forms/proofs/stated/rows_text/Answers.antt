use Rattle.std.proofs.Common.{◌≡◌, ◌++◌, string_bytes, ap, rules, ◌∙◌}
use Rattle.ucptrie_forms.specs.Stated.{stating_lines}
use Rattle.ucptrie_forms.proofs.stated.rows_text.Goals as goal

pub returns-clause-rows : goal.returns-clause-rows
returns-clause-rows c = λ coherent value each.
    let ranges = c.in_ok-ranges.ensures coherent value each in
    let both : string_bytes c.push_str.new.self ≡ string_bytes c.in_ok-text.text ++ string_bytes c.in_ok-ranges.ranges = search rules in
    let lines = ap (λ t. t ++ string_bytes c.in_ok-ranges.ranges) c.in_ok-text.ensures.lines in
    (ranges.0, (ranges.1.0, both ∙ (lines ∙ ap (λ t. stating_lines c.args.trie.now ++ t) ranges.1.1)))
