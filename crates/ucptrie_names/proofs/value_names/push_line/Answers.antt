use Rattle.std.proofs.Common.{◌≡◌, ◌++◌, string_bytes}
use Rattle.ucptrie_names.specs.NamesSource.{value_line}
use Rattle.ucptrie_names.proofs.SourceTexts.{joined-5-text}
use Rattle.ucptrie_names.proofs.value_names.push_line.Goals as goal

pub returns : goal.returns
unfolding value_line
returns c =
    let own : string_bytes c.push_str.new.self ≡ string_bytes c.push_named.new.text ++ string_bytes c.args.value.now.identifier =
    rw c.as_str.ensures.value at c.in_ok-push_str.ensures.bytes in
    joined-5-text c.push_str-3.result _ _ _ _ _ _ _ _ _ _ _ c.in_ok-push_named.ensures own c.in_ok-push_str-2.ensures.bytes
    c.in_ok-push_number.ensures c.push_str-3.ensures.bytes
