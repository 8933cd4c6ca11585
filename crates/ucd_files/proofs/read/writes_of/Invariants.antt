use Rattle.std.proofs.Common.{◌≡◌}
use Rattle.std.specs.List.{filter_map}
use Rattle.ucd_files.specs.Files.{explicit_write, missing_write}
use Rattle.ucd_files.proofs.read.writes_of.Given as goal

abbrev pub invariant-loop-statement : goal.invariant-loop-statement
invariant-loop-statement l =
    record {
      missing : l.missing.items ≡ filter_map missing_write l.yielded;
      explicit : l.explicit.items ≡ filter_map explicit_write l.yielded;
    }
