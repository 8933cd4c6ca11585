use Rattle.std.proofs.Common.{sym, append-nil, []}
use Rattle.icu_frozen_sets.specs.FrozenView.{view_words}
use Rattle.icu_frozen_sets.proofs.frozen.FrozenCodePointSet.span_back_utf8_lossy.Goals as goal

pub returns : goal.returns
returns c = let v = view_words c.as_view.result in
    c.span_back_utf8_lossy.ensures.set c.args.self.now v [] c.as_view.ensures (sym (append-nil v))
