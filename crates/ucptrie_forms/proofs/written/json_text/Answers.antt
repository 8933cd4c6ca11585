use Rattle.std.proofs.Common.{◌≡◌, ◌++◌, ◌∷◌, [], ◌∙◌, ap, string_bytes, rules}
use Rattle.ucptrie_forms.proofs.JsonLemmas.{text_of_json}
use Rattle.ucptrie_forms.proofs.written.json_text.Goals as goal

pub returns : goal.returns
returns c =
    let text = text_of_json c.args.table.now.trie _ _ c.in_ok-to_json.ensures.json c.in_ok-text.ensures.text in
    let grown : string_bytes c.push.new.self ≡ string_bytes c.in_ok-text.text ++ 10 ∷ [] = search rules in
    grown ∙ ap (λ b. b ++ 10 ∷ []) text
