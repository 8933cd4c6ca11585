use Rattle.std.proofs.Common.{◌≡◌, ◌++◌, map, string_bytes}
use Rattle.std.specs.Char.{to_ascii_uppercase}
use Rattle.ucptrie_names.specs.NamesSource.{static_trie}
use Rattle.ucptrie_names.proofs.SourceTexts.{joined-5}
use Rattle.ucptrie_names.proofs.static_source.push_static.Goals as goal

pub returns : goal.returns
unfolding static_trie
returns c =
    let name : string_bytes c.push_str.new.self ≡ string_bytes c.push_named.new.text ++ map to_ascii_uppercase c.args.module_name.now =
    rw (c.as_str.ensures.value, c.in_ok-name.ensures) at c.in_ok-push_str.ensures.bytes in
    joined-5 c.push_named-4.result _ _ _ _ _ _ _ _ _ _ _ c.in_ok-push_named.ensures name c.in_ok-push_named-2.ensures
    c.in_ok-push_named-3.ensures c.push_named-4.ensures
