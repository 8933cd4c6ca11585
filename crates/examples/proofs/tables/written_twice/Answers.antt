use Rattle.std.proofs.Common.{◌≡◌, [], ◌∷◌, Some, ap, rules, ◌∙◌}
use Rattle.icu_collections.proofs.CallerLemmas.{IsAfter-append, map_answer-after}
use Rattle.icu_collections.specs.CodePointTrieBuilder.{IsAfter, answer_after}
use Rattle.icu_collections.specs.declared.codepointtrie.Write.{Write}
use Rattle.examples.proofs.tables.written_twice.Goals as goal

pub returns : goal.returns
returns g c =
    let first : IsAfter (Write.One c.args.first.0 c.args.first.1 ∷ []) c.new-builder.result c.set_value.new.self = search rules in
    let second : IsAfter (Write.One c.args.second.0 c.args.second.1 ∷ []) c.set_value.new.self c.set_value-2.new.self = search rules in
    let both = IsAfter-append _ _ _ _ _ first second in
    let answer = map_answer-after c.args.default c.args.error _ _ _ c.new-builder.ensures.map c.new-builder.ensures.error both c.args.c in
    let found = c.get32.ensures ∙ (c.in_ok-trie.ensures.trie.answers.value c.args.c ∙ ap Some answer) in
    let same : c.get32.result ≡ answer_after c.args.default c.args.error
    (Write.One c.args.first.0 c.args.first.1 ∷ Write.One c.args.second.0 c.args.second.1 ∷ []) c.args.c = cc in same
