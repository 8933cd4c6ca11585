use Rattle.std.proofs.Common.{◌≡◌, ◌++◌, length, map, option_map}
use Rattle.std.specs.Prelude.{filter, filter_map}
use Rattle.toml.specs.View.{view}
use Rattle.ucptrie_readers.specs.Inside.ReadProperties.{as_read}
use Rattle.ucptrie_readers.specs.Properties.{is_asked, property_of}
use Rattle.ucptrie_readers.proofs.properties.push_items.Given as goal

-- what is found, with what the values that are left have, is all that the values have
abbrev pub invariant-loop-rest : goal.invariant-loop-rest
invariant-loop-rest l = map as_read l.found.items
    ++ filter (is_asked (option_map (λ name. name.now) l.name)) (filter_map (property_of l.key) (map view l.rest))
    ≡ map as_read l.initial.found.items
    ++ filter (is_asked (option_map (λ name. name.now) l.name)) (filter_map (property_of l.key) (map view l.values))

abbrev pub decreases-loop-rest : goal.decreases-loop-rest
decreases-loop-rest l = length l.rest
