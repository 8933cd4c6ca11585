use Rattle.std.proofs.Common.{refl, ap, ◌∙◌, ◌++◌}
use Rattle.std.specs.Char.{encode_utf8}
use Rattle.icu_char16trie.specs.Inside.Opening.{bytes_of}
use Rattle.icu_char16trie.proofs.SpellingLemmas.{on_pair}
use Rattle.icu_char16trie.proofs.spelling.Spelling.push_after.Goals as goal

pub returns-in-Some : goal.returns-in-Some
returns-in-Some c =
    on_pair c.args.self.now _ c.args.lead c.args.unit c.requires refl c.in-Some.ensures.0 c.in-Some.ensures.1
    (c.in_ok-push.ensures.bytes ∙ ap (λ z. bytes_of c.args.self.now ++ encode_utf8 z) c.in-Some.ensures.2)
