use Rattle.std.proofs.Common.{◌≡◌, drop, slice_get}
use Rattle.std.specs.List.{filter_map}
use Rattle.ucd_files.specs.Names.{number_named}
use Rattle.ucd_files.proofs.value_names.number_among.Given as goal

-- what is left of the indices has the name
abbrev pub invariant-loop-index : goal.invariant-loop-index
invariant-loop-index l =
    number_named l.matching (filter_map (slice_get l.names) (drop l.index-index l.indices)) l.text
    ≡ number_named l.matching (filter_map (slice_get l.names) l.indices) l.text
