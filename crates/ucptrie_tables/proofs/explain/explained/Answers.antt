use Rattle.std.proofs.Common.{◌≡◌, ◌++◌, [], ◌∷◌, get_or, take, ap, ◌∙◌, append_assoc, string_bytes}
use Rattle.std.proofs.lemmas.List.{take_more}
use Rattle.ucptab_table.specs.TableText.{answers_text}
use Rattle.ucptrie_tables.proofs.ShownLemmas.{IsExplained-more}
use Rattle.ucptrie_tables.proofs.explain.explained.Goals as goal

pub loop-c-preserved : goal.loop-c-preserved
loop-c-preserved c = λ given is.
    let asked = c.args.asked.now in
    let n = get_or asked c.loop-c.c-index 0 in
    let text = string_bytes c.loop-c.text in
    let added = c.in_ok-push_look_up.ensures in
    let line = answers_text given (n ∷ []) in
    let whole : string_bytes c.push_str.new.self ≡ text ++ (added.0 ++ line) =
    c.in_ok-push_str.ensures.bytes ∙ (ap (λ t. string_bytes c.push_look_up.new.text ++ t) (c.deref.ensures ∙ c.in_ok-line.ensures given is)
    ∙ (ap (λ t. t ++ line) added.1.1 ∙ append_assoc text added.0 line)) in
    rw (take_more asked c.loop-c.c-index 0 c.loop-c-test.true)
    (IsExplained-more given (take c.loop-c.c-index asked) n text added.0 _ (c.loop-c.invariant given is) added.1.0 whole)
