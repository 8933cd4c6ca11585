use Rattle.std.proofs.Common.{◌^◌, ◌<◌, rules}
use Rattle.icu_collections_c.proofs.SpanLemmas.{answers_some, answers_span}
use Rattle.icu_collections_c.proofs.spans.length_or_no_text.Goals as goal

pub returns-then-span-gt0 : goal.returns-then-span-gt0
returns-then-span-gt0 c = λ is_in held s.
    let small : c.args.span < 2 ^ 63 = search rules in
    answers_some is_in held c.args.text.now c.args.span small s c.if-span-gt0.true
