use Rattle.std.proofs.Common.{◌≡◌, Bool, rules, ℕ}
use Rattle.icu_frozen_sets.specs.FrozenView.{view_words}
use Rattle.icu_frozen_sets.specs.LongestSpans.{unit_span}
use Rattle.icu_frozen_sets.proofs.FrozenWordLemmas.{of_set}
use Rattle.icu_frozen_sets.proofs.view.FrozenView.span_utf16.Goals as goal

pub returns-clause-exact : goal.returns-clause-exact
returns-clause-exact c = search rules

pub returns-clause-set : goal.returns-clause-set
returns-clause-set c = λ ends words rest f e.
    let P : (ℕ → Bool) → Type 0 = λ p. c.span_units.result ≡ unit_span p c.args.held c.args.units.now in
    of_set (view_words c.args.self) ends words rest f e P (returns-clause-exact c)
