use Rattle.std.proofs.Common.{◌≡◌, ◌<◌, ◌^◌, string_bytes, ap, arith, rules, sym}
use Rattle.ucptrie_forms.specs.Stated.{stating_lines}
use Rattle.ucptrie_forms.proofs.StatedLemmas.{StatesValues-comments}
use Rattle.ucptrie_forms.proofs.stated.stating_text.Goals as goal

pub returns-clause-stated : goal.returns-clause-stated
returns-clause-stated c = λ rest.
    let lines : string_bytes c.push_stating_line-2.new.text ≡ stating_lines c.args.trie.now = search rules in
    let small : c.args.trie.now.header.null_value < 2 ^ 32 =
    omega (arith, c.push_stating_line.ensures.below, ap (λ h. h.null_value) c.parts.ensures.header) in
    rw lines (StatesValues-comments c.args.trie.now c.error_value.result rest small c.push_stating_line-2.ensures.below
    (sym c.error_value.ensures))
