use Rattle.std.proofs.Common.{◌≡◌, rules}
use Rattle.std.specs.Str.{IsUtf8}
use Rattle.icu_invlist.specs.InversionList.{holds}
use Rattle.icu_frozen_sets.specs.FrozenView.{view_words}
use Rattle.icu_frozen_sets.specs.FrozenWords.{is_held}
use Rattle.icu_frozen_sets.proofs.LongestSpanLemmas.{text_span}
use Rattle.icu_frozen_sets.proofs.view.FrozenView.span.Goals as goal

pub returns-clause-exact : goal.returns-clause-exact
returns-clause-exact c =
    let utf8 : IsUtf8 c.args.text.now = search rules in
    (text_span (is_held (view_words c.args.self)) c.args.held c.args.text.now c.span_utf8.result (search rules) utf8).0

pub returns-clause-set : goal.returns-clause-set
returns-clause-set c = λ ends words rest f e.
    let utf8 : IsUtf8 c.args.text.now = search rules in
    let same : c.as_bytes.result.now ≡ c.args.text.now = search rules in
    let span = rw same at (c.span_utf8.ensures.set ends words rest f e) in
    (text_span (holds ends) c.args.held c.args.text.now c.span_utf8.result span utf8).0

pub returns-clause-boundary : goal.returns-clause-boundary
returns-clause-boundary c =
    let utf8 : IsUtf8 c.args.text.now = search rules in
    (text_span (is_held (view_words c.args.self)) c.args.held c.args.text.now c.span_utf8.result (search rules) utf8).1
