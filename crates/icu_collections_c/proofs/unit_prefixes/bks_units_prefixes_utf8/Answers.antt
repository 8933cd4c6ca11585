-- There are no more prefixes than a signed 64-bit number can count, or that number is returned.
use Rattle.std.proofs.Common.{◌∙◌, ap, arith, inr, pos, sym, w64}
use Rattle.std.proofs.lemmas.Bool.{true≢false}
use Rattle.std.proofs.lemmas.Int.{to_z_pos}
use Rattle.icu_collections_c.proofs.unit_prefixes.bks_units_prefixes_utf8.Goals as goal

pub returns-clause-keys : goal.returns-clause-keys
returns-clause-keys c = λ m h.
    let found = c.prefixes_in.ensures.keys m h in
    let count = to_z_pos w64 c.min.result (omega (arith, c.min.ensures)) ∙ ap pos c.min.ensures in
    inr (
      λ bad. true≢false (sym (c.starts_ill_formed.ensures.1 bad) ∙ c.if-starts_ill_formed.false),
      (found.0, found.1, (c.prefixes_in.result, count, found.2)),
    )

pub returns-clause-exact : goal.returns-clause-exact
returns-clause-exact c =
    let found = c.prefixes_in.ensures.exact in
    let count = to_z_pos w64 c.min.result (omega (arith, c.min.ensures)) ∙ ap pos c.min.ensures in
    inr (
      λ bad. true≢false (sym (c.starts_ill_formed.ensures.1 bad) ∙ c.if-starts_ill_formed.false),
      (found.0, found.1, (c.prefixes_in.result, count, found.2)),
    )
