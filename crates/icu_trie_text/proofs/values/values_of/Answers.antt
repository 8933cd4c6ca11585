use Rattle.std.proofs.Common.{arith}
use Rattle.std.specs.Str.{chars}
use Rattle.icu_trie_text.specs.Inside.Lookup.{lookup_parts}
use Rattle.icu_trie_text.proofs.ValueLemmas.{value_runs, values_fit, values_of_drained}
use Rattle.icu_trie_text.proofs.values.values_of.Goals as goal

pub returns-clause-fits : goal.returns-clause-fits
returns-clause-fits g c = rw (c.chars.ensures.rest) (omega (arith, values_fit (lookup_parts c.new.result) c.args.text.now c.utf8.text))

pub returns-clause-values : goal.returns-clause-values
returns-clause-values g c = rw (c.chars.ensures.rest) (λ items drained.
    rw (c.new.ensures) at (values_of_drained (lookup_parts c.new.result) (chars c.args.text.now) items drained))

pub returns-clause-runs : goal.returns-clause-runs
returns-clause-runs g c = value_runs c.args.trie.now
