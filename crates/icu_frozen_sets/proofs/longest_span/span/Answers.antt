use Rattle.icu_frozen_sets.proofs.LongestSpanLemmas.{starts}
use Rattle.icu_frozen_sets.proofs.longest_span.span.Goals as goal

pub returns-clause-exact : goal.returns-clause-exact
returns-clause-exact g c = λ sound.
    c.span_from.ensures.exact sound (starts (g.K.Kind.is_in c.args.kind.now) (g.K.Kind.held c.args.kind.now) c.args.bytes.now)
