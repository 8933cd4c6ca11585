use Rattle.std.proofs.Common.{◌++◌, sym, ap, ◌∙◌, append_assoc}
use Rattle.std.proofs.lemmas.Iterator.{YieldsList-from_chars}
use Rattle.std.specs.Char.Escape.{encode_utf16}
use Rattle.std.specs.List.{flat_map}
use Rattle.icu_char16trie.proofs.CallerLemmas.{all_chars, units_next}
use Rattle.icu_collections_c.proofs.unit_keys.push_text.Goals as goal

pub loop-c-preserved : goal.loop-c-preserved
loop-c-preserved c =
    c.in_ok-push_char.ensures
    ∙ ap (λ z. z ++ encode_utf16 c.in-Some.c) c.loop-c.invariant
    ∙ append_assoc c.args.units.now.items (flat_map encode_utf16 c.loop-c.yielded) (encode_utf16 c.in-Some.c)
    ∙ ap (λ z. c.args.units.now.items ++ z) (sym (units_next c.loop-c.yielded c.in-Some.c))

pub returns : goal.returns
returns c =
    let all = all_chars (YieldsList-from_chars c.args.text.now c.utf8.text cc) c.loop-c.yielded _ c.loop-c.yielded_by _ _ c.in-None.is
    c.next.ensures.steps in
    c.loop-c.invariant ∙ ap (λ z. c.args.units.now.items ++ flat_map encode_utf16 z) all
