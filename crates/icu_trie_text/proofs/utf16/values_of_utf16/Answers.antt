use Rattle.std.proofs.Common.{arith}
use Rattle.icu_utf.specs.Utf16.{code_points_of}
use Rattle.icu_trie_text.proofs.ValueLemmas.{units_fit, value_runs, values_of_drained}
use Rattle.icu_trie_text.proofs.utf16.values_of_utf16.Goals as goal

pub returns-clause-fits : goal.returns-clause-fits
returns-clause-fits g c = omega (arith, units_fit c.args.trie.now c.args.units.now)

pub returns-clause-values : goal.returns-clause-values
returns-clause-values g c = λ items drained. values_of_drained c.args.trie.now (code_points_of c.args.units.now) items drained

pub returns-clause-runs : goal.returns-clause-runs
returns-clause-runs g c = value_runs c.args.trie.now
