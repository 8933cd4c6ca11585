use Rattle.std.proofs.Common.{refl, ap, ◌∙◌, ◌++◌}
use Rattle.std.specs.Char.{encode_utf8}
use Rattle.icu_char16trie.proofs.WalkLemmas.{plain_ends, held_ends}
use Rattle.icu_char16trie.proofs.walk.Walk.end_key.Goals as goal

pub returns-in_default : goal.returns-in_default
returns-in_default c = plain_ends c.args.self.now c.in_default.is

pub returns : goal.returns
returns c =
    held_ends c.args.self.now _ c.in-Some._lead refl refl refl c.in-Some.is
    (c.in_ok-push.ensures.bytes ∙ ap (λ z. z ++ encode_utf8 0xFFFD)
    (c.in_ok-push_str.ensures.bytes ∙ ap (λ z. z ++ c.deref.result.now) c.clear.ensures.bytes ∙ c.deref.ensures))
