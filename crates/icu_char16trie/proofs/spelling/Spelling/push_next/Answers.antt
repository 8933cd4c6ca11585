use Rattle.std.proofs.Common.{◌≡◌, refl, sym, ap, ◌∙◌, ◌++◌, arith, inl}
use Rattle.std.specs.Char.{encode_utf8}
use Rattle.icu_char16trie.specs.Inside.Opening.{bytes_of}
use Rattle.icu_char16trie.proofs.SpellingLemmas.{on_held, on_alone, lone_ascii}
use Rattle.icu_char16trie.proofs.spelling.Spelling.push_next.Goals as goal

pub returns-then-unit-lt128 : goal.returns-then-unit-lt128
returns-then-unit-lt128 c =
    let is : c.from.result ≡ c.args.unit = omega (arith, c.from.ensures, c.if-unit-lt128.true) in
    on_alone c.args.self.now _ c.args.unit c.requires c.requires (inl (omega (arith, c.if-unit-lt128.true)))
    (c.in_ok-push.ensures.bytes ∙ ap (λ z. bytes_of c.args.self.now ++ encode_utf8 z)
    (is ∙ sym (lone_ascii c.args.unit (omega (arith, c.if-unit-lt128.true)))))

pub returns-in-Some : goal.returns-in-Some
returns-in-Some c = on_held c.args.self.now _ c.in-Some.lead c.args.unit c.requires refl refl c.in-Some.ensures

pub returns : goal.returns
returns c =
    on_alone c.args.self.now _ c.args.unit c.requires c.requires c.in_default.ensures
    (c.in_ok-push-2.ensures.bytes ∙ ap (λ z. bytes_of c.args.self.now ++ encode_utf8 z) c.lone_char.ensures)
