use Rattle.std.proofs.Common.{sym, ◌∙◌, ap, ap₂, ◌++◌}
use Rattle.std.specs.Option.{option_to_list}
use Rattle.std.specs.Prelude.{string_bytes}
use Rattle.ucptab_table.specs.TableText.{hexadecimal}
use Rattle.ucptab_table.proofs.Asked.{filter_map-more}
use Rattle.ucptab_table.proofs.words.asked_numbers.Goals as goal

pub loop-word-preserved : goal.loop-word-preserved
loop-word-preserved c =
    let x = c.word-item.result in
    c.in_ok-push_number.ensures
    ∙ (ap₂ (λ front last. front ++ option_to_list last) c.loop-word.invariant (ap hexadecimal c.as_bytes.ensures.value)
    ∙ sym (filter_map-more (λ word. hexadecimal (string_bytes word)) c.args.words.now c.loop-word.word-index x c.loop-word-test.true
    (sym c.word-item.is)))
