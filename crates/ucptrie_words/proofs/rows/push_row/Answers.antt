use Rattle.std.proofs.Common.{inr, refl, rules}
use Rattle.ucptrie_words.proofs.rows.push_row.Goals as goal

pub returns-then-not-can_be_key-clause-err : goal.returns-then-not-can_be_key-clause-err
returns-then-not-can_be_key-clause-err c = inr (c.in_ok-from_str.field-0, refl, search rules, search rules)
