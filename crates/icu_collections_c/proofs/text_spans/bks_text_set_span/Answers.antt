use Rattle.std.proofs.Common.{◌∙◌, inr, rules, sym}
use Rattle.std.proofs.lemmas.Bool.{true≢false}
use Rattle.icu_collections_c.proofs.text_spans.bks_text_set_span.Goals as goal

pub returns-clause-set : goal.returns-clause-set
returns-clause-set c = λ set s.
    let found = c.span_size.ensures.set set s in
    inr (
      λ bad. true≢false (sym (c.starts_ill_formed.ensures.1 bad) ∙ c.if-starts_ill_formed.false),
      (c.span_size.result, search rules, found),
    )
