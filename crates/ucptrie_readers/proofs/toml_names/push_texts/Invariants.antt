use Rattle.std.proofs.Common.{◌≡◌, length, map}
use Rattle.toml.specs.View.{view}
use Rattle.ucd_files.specs.Names.{pairs_of}
use Rattle.ucptrie_readers.specs.TomlNames.{with_texts}
use Rattle.ucptrie_readers.proofs.toml_names.push_texts.Given as goal

abbrev pub invariant-loop-rest : goal.invariant-loop-rest
invariant-loop-rest l = with_texts l.number (pairs_of l.names) (map view l.rest)
    ≡ with_texts l.number (pairs_of l.initial.names) (map view l.values)

abbrev pub decreases-loop-rest : goal.decreases-loop-rest
decreases-loop-rest l = length l.rest
