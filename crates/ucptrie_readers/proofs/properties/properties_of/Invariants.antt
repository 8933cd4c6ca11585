use Rattle.std.proofs.Common.{◌≡◌, map, option_map}
use Rattle.std.specs.Map.Iter.{deref_pair}
use Rattle.toml.specs.View.{members_view}
use Rattle.ucptrie_readers.specs.Inside.ReadProperties.{as_read}
use Rattle.ucptrie_readers.specs.Properties.{asked_of}
use Rattle.ucptrie_readers.proofs.properties.properties_of.Given as goal

-- what is found is what the keys so far have
abbrev pub invariant-loop-key : goal.invariant-loop-key
invariant-loop-key l = map as_read l.found.items
    ≡ asked_of (option_map (λ name. name.now) l.name) (members_view (map deref_pair l.yielded))
