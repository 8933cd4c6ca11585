use Rattle.std.proofs.Common.{◌≡◌, sym, ap, ◌∙◌, rules, tests}
use Rattle.std.specs.List.{list_all}
use Rattle.std.proofs.lemmas.Iterator.{YieldsList-from_slice}
use Rattle.std.proofs.lemmas.Iterator.Search.{all_from_yields_List}
use Rattle.ucptrie_tables.specs.Source.{is_name, is_name_byte}
use Rattle.ucptrie_tables.proofs.SourceLemmas.{is_name-all}
use Rattle.ucptrie_tables.proofs.source.is_name.Goals as goal

pub returns-in_default : goal.returns-in_default
returns-in_default c =
    let bytes = c.as_bytes-bytes.result.now in
    let all : c.all.result ≡ list_all is_name_byte bytes =
    all_from_yields_List is_name_byte _ _ c.all.result c.all.ensures.ran (YieldsList-from_slice bytes c.iter.ensures.rest)
    (λ x b q k. search (rules, tests)) in
    all ∙ (sym (is_name-all bytes c.in-len1-up.len_at_least (sym c.is_ascii_digit.ensures.value ∙ c.if-is_ascii_digit.false))
    ∙ ap is_name c.as_bytes-bytes.ensures.value)
