use Rattle.std.proofs.Common.{◌≡◌, ◌∙◌, ◌++◌, encode_utf8, sym, take, drop, rules}
use Rattle.icu_frozen_sets.proofs.TextPieces.{is_first_span}
use Rattle.icu_frozen_sets.proofs.spans.first_span.Goals as goal

pub returns : goal.returns
returns c =
    let front : c.range.result.now ≡ take c.span-end.result c.args.text.now = search rules in
    let rest : c.range_from.result.now ≡ drop c.span-end.result c.args.text.now = search rules in
    let step : c.args.text.now ≡ encode_utf8 c.in_ok-first.first ++ c.next.new.self.rest.now =
    sym c.chars.ensures.rest ∙ c.in_ok-first.ensures.steps.0 in
    is_first_span c.args.set.now c.args.text.now c.next.new.self.rest.now c.in_ok-first.first _ c.range_from.result.now c.span-end.result
    c.utf8.text step
    c.contains-is_held.ensures c.span-end.ensures.place front rest
