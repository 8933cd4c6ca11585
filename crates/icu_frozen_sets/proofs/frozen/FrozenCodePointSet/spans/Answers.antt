use Rattle.icu_frozen_sets.proofs.TextPieces.{spans_of_drained}
use Rattle.icu_frozen_sets.proofs.frozen.FrozenCodePointSet.spans.Goals as goal

pub returns-clause-spans : goal.returns-clause-spans
returns-clause-spans c = λ spans drained. spans_of_drained _ spans c.utf8.text drained
