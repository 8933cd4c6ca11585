use Rattle.std.proofs.Common.{sym, append-nil, []}
use Rattle.icu_invlist.specs.InversionList.{holds}
use Rattle.icu_frozen_sets.specs.FrozenView.{view_words}
use Rattle.icu_frozen_sets.proofs.LongestSpanLemmas.{text_span}
use Rattle.icu_frozen_sets.proofs.TextFrontLemmas.{span_of_front}
use Rattle.icu_frozen_sets.proofs.frozen.FrozenCodePointSet.span_utf8.Goals as goal

pub returns-clause-exact : goal.returns-clause-exact
returns-clause-exact c = let v = view_words c.as_view.result in
    c.span_utf8.ensures.set c.args.self.now v [] c.as_view.ensures (sym (append-nil v))

pub returns-clause-place : goal.returns-clause-place
returns-clause-place c = span_of_front (holds c.args.self.now) c.args.held c.args.bytes.now c.span_utf8.result (returns-clause-exact c)

pub returns-clause-text : goal.returns-clause-text
returns-clause-text c = λ u. (text_span (holds c.args.self.now) c.args.held c.args.bytes.now c.span_utf8.result (returns-clause-exact c) u).0

pub returns-clause-within : goal.returns-clause-within
returns-clause-within c = let s = returns-clause-exact c in s.within

pub returns-clause-front : goal.returns-clause-front
returns-clause-front c = let s = returns-clause-exact c in s.alike.0
