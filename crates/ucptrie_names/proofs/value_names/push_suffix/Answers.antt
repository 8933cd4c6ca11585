use Rattle.std.proofs.Common.{◌≡◌, ◌<◌, ◌^◌, ◌++◌, decimal, string_bytes, arith}
use Rattle.std.specs.Prelude.{OnOk}
use Rattle.std.proofs.lemmas.Grind.{common_steps}
use Rattle.ucptrie_names.specs.ValueIdentifiers.{before_word, last_byte}
use Rattle.ucptrie_names.proofs.WordLemmas.{with_number-is}
use Rattle.ucptrie_names.proofs.value_names.push_suffix.Goals as goal

pub returns : goal.returns
returns c =
    let n = c.args.number in
    let old = string_bytes c.args.identifier.now in
    let small : n < 2 ^ 64 = omega arith in
    let pushed : OnOk c.push_number.result
    (string_bytes c.push_number.new.text ≡ old ++ (before_word (last_byte old) 48 ++ decimal n)) = grind (arith, common_steps) in
    rw (with_number-is n old small) pushed
