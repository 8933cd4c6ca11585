use Rattle.std.proofs.Common.{◌≡◌, ◌++◌, [], ◌∷◌, length, rules}
use Rattle.std.specs.Prelude.{◌==◌, if◌then◌else◌}
use Rattle.ucd_files.specs.declared.names.Name.{Name}
use Rattle.ucd_files.specs.Inside.Groups.{group, name_hash}
use Rattle.ucd_files.proofs.GroupLemmas.{group-more}
use Rattle.ucd_files.proofs.value_names.ValueNames.push.Goals as goal

pub invariant_of-self-2 : goal.invariant_of-self-2
invariant_of-self-2 c = λ hash.
    let names = c.self.inside.names.items in
    let name : Name = record { text = c.args.text; number = c.args.number } in
    let items : c.push_reserved.new.self.items ≡ names ++ name ∷ [] = search rules in
    let hashed : name_hash c.args.text.now ≡ c.hash_of.result = search rules in
    let last : length names ≡ c.len.result = search rules in
    let pushed : group c.push_in_group.new.groups hash
    ≡ group c.self.inside.groups hash ++ (if name_hash c.args.text.now == hash then length names ∷ [] else []) =
    rw (hashed, last) (c.in_ok-push_in_group.ensures.ok hash) in
    let old = group c.self.inside.groups hash in
    let new = group c.push_in_group.new.groups hash in
    rw items (group-more names name hash old new pushed (c.self.invariant hash))
