use Rattle.std.proofs.Common.{◌^◌, ◌<◌, rules}
use Rattle.icu_collections_c.proofs.SpanLemmas.{answers_back, answers_some_back}
use Rattle.icu_collections_c.proofs.spans.start_or_no_text.Goals as goal

pub returns-then-start-text : goal.returns-then-start-text
returns-then-start-text c = λ is_in held s.
    let small : c.args.start < 2 ^ 63 = search rules in
    answers_some_back is_in held c.args.text.now c.args.start small s c.if-start-text.true
