use Rattle.std.proofs.Common.{refl}
use Rattle.ucptrie_names.proofs.value_names.push_value.Goals as goal

pub returns : goal.returns
returns c = record {
  value = record { identifier = c.in_ok-identifier.identifier; number = c.args.name.now.number };
  pushed = c.in_ok-push.ensures.items;
  number = refl;
  identifier = rw c.deref.ensures.value at c.in_ok-identifier.ensures;
}
