use Rattle.std.proofs.Common.{◌≡◌, ◌++◌, Some, ap, rules, ◌∙◌}
use Rattle.icu_collections.proofs.CallerLemmas.{IsAfter-append, map_answer-after}
use Rattle.icu_collections.specs.CodePointTrieBuilder.{IsAfter, answer_after}
use Rattle.examples.proofs.tables.amended_value.Goals as goal

pub returns : goal.returns
returns c =
    let first : IsAfter c.args.first.now c.new-builder.result c.apply.new.self = search rules in
    let second : IsAfter c.args.second.now c.apply.new.self c.apply-2.new.self = search rules in
    let both = IsAfter-append _ _ _ _ _ first second in
    let answer = map_answer-after 0 255 _ _ _ c.new-builder.ensures.map c.new-builder.ensures.error both c.args.c in
    let found = c.get32.ensures ∙ (c.in_ok-trie.ensures.trie.answers.value c.args.c ∙ ap Some answer) in
    let same : c.get32.result ≡ answer_after 0 255 (c.args.first.now ++ c.args.second.now) c.args.c = cc in same
