use Rattle.std.proofs.Common.{◌∙◌, inr, rules, sym}
use Rattle.std.proofs.lemmas.Bool.{true≢false}
use Rattle.icu_collections_c.proofs.unit_tries.bks_units_longest_utf8.Goals as goal

pub returns-clause-keys : goal.returns-clause-keys
returns-clause-keys c = λ m h.
    let found = c.longest_in.ensures.keys m h in
    inr (
      λ bad. true≢false (sym (c.starts_ill_formed.ensures.1 bad) ∙ c.if-starts_ill_formed.false),
      (found.0, found.1, (c.longest_in.result, found.2, search rules)),
    )

pub returns-clause-exact : goal.returns-clause-exact
returns-clause-exact c =
    let found = c.longest_in.ensures.exact in
    inr (
      λ bad. true≢false (sym (c.starts_ill_formed.ensures.1 bad) ∙ c.if-starts_ill_formed.false),
      (found.0, found.1, (c.longest_in.result, found.2, search rules)),
    )
