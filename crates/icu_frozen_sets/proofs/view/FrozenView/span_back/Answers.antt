use Rattle.std.proofs.Common.{rules}
use Rattle.std.specs.Str.{IsUtf8}
use Rattle.icu_frozen_sets.specs.FrozenView.{view_words}
use Rattle.icu_frozen_sets.specs.FrozenWords.{is_held}
use Rattle.icu_frozen_sets.proofs.LongestSpanLemmas.{text_span_back}
use Rattle.icu_frozen_sets.proofs.view.FrozenView.span_back.Goals as goal

pub returns-clause-boundary : goal.returns-clause-boundary
returns-clause-boundary c =
    let utf8 : IsUtf8 c.args.text.now = search rules in
    text_span_back (is_held (view_words c.args.self)) c.args.held c.args.text.now c.span_back_utf8.result (search rules) utf8
