use Rattle.std.proofs.Common.{◌≡◌, ◌++◌, arith, rules, length, drop, take}
use Rattle.std.proofs.lemmas.Grind.{common_steps}
use Rattle.icu_invlist_binary.specs.SerializedSet.{HasForm, units_of}
use Rattle.icu_invlist_binary.proofs.ReadBack.{read_back}
use Rattle.icu_invlist_binary.proofs.serialized.to_serialized.Goals as goal

pub returns-clause-read_back : goal.returns-clause-read_back
returns-clause-read_back c =
    let form : HasForm c.args.set.now = first_of (search rules, grind (arith, common_steps)) in
    let is : take c.in_ok-units.units.len (c.put_set.new.target ++ drop (length c.put_set.new.target) c.in_ok-units.units.items)
    ≡ units_of c.args.set.now = first_of (search rules, grind (arith, common_steps)) in
    read_back c.args.set.now _ c.as_inversion_list-ends.ensures.valid form is
