use Rattle.std.proofs.Common.{option_map}
use Rattle.std.proofs.lemmas.Result.{IfErr-weaker}
use Rattle.toml.specs.View.{table_view}
use Rattle.ucptrie_sets.proofs.TomlFaults.{why_in_file}
use Rattle.ucptrie_sets.proofs.toml_file.set_of_file.Goals as goal

pub returns-in-Ok-clause-err : goal.returns-in-Ok-clause-err
returns-in-Ok-clause-err c = IfErr-weaker c.set_of_table.result _ _
    (λ e why. why_in_file c.args.text.now (option_map (λ n. n.now) c.args.name) (table_view c.in-Ok.file) c.in-Ok.ensures.ok e why)
    c.set_of_table.ensures.err
