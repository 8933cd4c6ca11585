use Rattle.std.proofs.Common.{◌≡◌, ◌<◌, ◌^◌, false, true, arith, rules, string_bytes}
use Rattle.ucptrie_names.specs.ValueIdentifiers.{is_taken, with_number}
use Rattle.ucptrie_names.proofs.IdentifierLemmas.{taken_falls, IsFirstFree-free, IsFirstFree-taken}
use Rattle.ucptrie_names.proofs.value_names.make_free.Goals as goal

pub loop-identifier-smaller : goal.loop-identifier-smaller
loop-identifier-smaller c =
    let own = string_bytes c.loop-identifier.identifier in
    let new = string_bytes c.push_suffix.new.identifier in
    let small : c.args.number < 2 ^ 64 = omega arith in
    let taken : is_taken c.args.values.now c.args.is_rust own ≡ true = search rules in
    let is : new ≡ with_number c.args.number own = search rules in
    taken_falls c.args.is_rust c.args.values.now c.args.number own new small taken is

pub loop-identifier-preserved : goal.loop-identifier-preserved
loop-identifier-preserved c = λ text first.
    let own = string_bytes c.loop-identifier.identifier in
    let taken : is_taken c.args.values.now c.args.is_rust own ≡ true = search rules in
    let is : string_bytes c.push_suffix.new.identifier ≡ with_number c.args.number own = search rules in
    c.loop-identifier.invariant text
    (IsFirstFree-taken c.args.is_rust c.args.values.now c.args.number own text taken (rw is at first))

pub returns : goal.returns
returns c =
    let own = string_bytes c.loop-identifier.identifier in
    let free : is_taken c.args.values.now c.args.is_rust own ≡ false = search rules in
    c.loop-identifier.invariant own (IsFirstFree-free c.args.is_rust c.args.values.now c.args.number own free)
