use Rattle.ucptrie_sets.proofs.TomlLemmas.{AreReadUpTo}
use Rattle.ucptrie_sets.proofs.toml_file.set_of_items.Given as goal

abbrev pub invariant-loop-i : goal.invariant-loop-i
invariant-loop-i l = AreReadUpTo l.items l.i l.builder
