use Rattle.std.proofs.Common.{◌∙◌, ap}
use Rattle.std.proofs.lemmas.Str.{IsUtf8-past_char}
use Rattle.icu_trie.specs.Parts.{trie_value}
use Rattle.icu_trie_text.specs.Inside.Lookup.{lookup_parts}
use Rattle.icu_trie_text.proofs.ValueLemmas.{first_is}
use Rattle.icu_trie_text.proofs.first.first_value.Goals as goal

pub returns-in-Some-clause-first : goal.returns-in-Some-clause-first
returns-in-Some-clause-first g c = first_is (lookup_parts c.args.trie.now) _ _ c.in_ok-first.first c.in-Some.value c.requires c.in_ok-first.ensures.steps.0
    (c.in-Some.ensures.value ∙ ap (λ n. trie_value (lookup_parts c.args.trie.now) n) c.from.ensures)

pub returns-in-Some-clause-rest : goal.returns-in-Some-clause-rest
returns-in-Some-clause-rest g c = IsUtf8-past_char _ _ c.in_ok-first.first c.requires c.in_ok-first.ensures.steps.0

pub returns-in-None-clause-first : goal.returns-in-None-clause-first
returns-in-None-clause-first g c =
    first_is (lookup_parts c.args.trie.now) _ _ c.in_ok-first.first c.get.result c.requires c.in_ok-first.ensures.steps.0 c.get.ensures

pub returns-in-None-clause-rest : goal.returns-in-None-clause-rest
returns-in-None-clause-rest g c = IsUtf8-past_char _ _ c.in_ok-first.first c.requires c.in_ok-first.ensures.steps.0
