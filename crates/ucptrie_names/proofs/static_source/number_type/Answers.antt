use Rattle.std.proofs.lemmas.List.{append-nil}
use Rattle.ucptrie_names.specs.NamesSource.{number_type}
use Rattle.ucptrie_names.proofs.static_source.number_type.Goals as goal

pub returns : goal.returns
unfolding number_type
returns c = rw (c.new-text.ensures.bytes, append-nil) at c.in_ok-push_pattern.ensures
