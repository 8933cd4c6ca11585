use Rattle.std.proofs.Common.{◌≡◌, ◌+◌, ◌≤◌, [], length, map}
use Rattle.toml.specs.View.{view}
use Rattle.ucd_files.specs.Names.{pairs_of}
use Rattle.ucptrie_readers.specs.TomlNames.{with_items}
use Rattle.ucptrie_readers.proofs.toml_names.names_in.Given as goal

abbrev pub invariant-loop-rest : goal.invariant-loop-rest
invariant-loop-rest l =
    record {
      names : with_items l.array l.i (pairs_of l.names) (map view l.rest) ≡ with_items l.array 0 [] (map view l.items);
      room : l.i + length l.rest ≤ length l.items;
    }

abbrev pub decreases-loop-rest : goal.decreases-loop-rest
decreases-loop-rest l = length l.rest
