use Rattle.std.proofs.Common.{rules, w64}
use Rattle.std.proofs.lemmas.Int.{to_z-of_z}
use Rattle.icu_invlist.specs.InversionList.{holds}
use Rattle.icu_collections_c.proofs.SpanLemmas.{text_span_back}
use Rattle.icu_collections_c.proofs.spans.bks_set_span_back.Goals as goal

pub returns-clause-exact : goal.returns-clause-exact
returns-clause-exact c = λ valid.
    rw (to_z-of_z w64 c.start_or_no_text.result (search rules))
    (c.start_or_no_text.ensures (holds c.args.ends.now) c.args.held (c.span_back_utf8.ensures.exact valid))

pub returns-clause-text : goal.returns-clause-text
returns-clause-text c = λ valid. text_span_back (holds c.args.ends.now) c.args.held c.args.text.now _ (returns-clause-exact c valid)
