use Rattle.std.proofs.Common.{Bool, rules, ℕ}
use Rattle.icu_frozen_sets.specs.FrozenView.{view_words}
use Rattle.icu_frozen_sets.specs.LongestSpans.{IsLossySpanBack}
use Rattle.icu_frozen_sets.proofs.FrozenWordLemmas.{of_set}
use Rattle.icu_frozen_sets.proofs.view.FrozenView.span_back_utf8_lossy.Goals as goal

pub returns-clause-exact : goal.returns-clause-exact
returns-clause-exact c = search rules

pub returns-clause-set : goal.returns-clause-set
returns-clause-set c = λ ends words rest f e.
    let P : (ℕ → Bool) → Type 0 = λ p. IsLossySpanBack p c.args.held c.args.bytes.now c.lossy_span_back.result in
    of_set (view_words c.args.self) ends words rest f e P (returns-clause-exact c)
