use Rattle.std.proofs.Common.{◌≡◌, length, map, option_map}
use Rattle.std.specs.List.{filter}
use Rattle.toml.specs.View.{view}
use Rattle.ucptrie_sets.specs.TomlSets.{is_asked}
use Rattle.ucptrie_sets.proofs.toml_file.first_asked.Given as goal

-- none of the properties so far is asked for
abbrev pub invariant-loop-rest : goal.invariant-loop-rest
invariant-loop-rest l = filter (is_asked (option_map (λ n. n.now) l.name)) (map view l.rest)
    ≡ filter (is_asked (option_map (λ n. n.now) l.name)) (map view l.properties)

abbrev pub decreases-loop-rest : goal.decreases-loop-rest
decreases-loop-rest l = length l.rest
