use Rattle.std.proofs.Common.{◌≡◌, ◌++◌, ◌∷◌, [], ◌∙◌, ap, string_bytes, rules}
use Rattle.ucptrie_sets.proofs.JsonLemmas.{text_of_json}
use Rattle.ucptrie_sets.proofs.written.json_text.Goals as goal

pub returns : goal.returns
returns c =
    let text = text_of_json c.args.set.now _ _ c.in_ok-to_json.ensures.ok c.in_ok-text.ensures.text in
    let grown : string_bytes c.push.new.self ≡ string_bytes c.in_ok-text.text ++ 10 ∷ [] = search rules in
    grown ∙ ap (λ b. b ++ 10 ∷ []) text
