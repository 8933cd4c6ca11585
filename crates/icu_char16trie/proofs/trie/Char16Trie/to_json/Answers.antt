use Rattle.icu_zerovec.specs.Slice.{slice_values}
use Rattle.std.proofs.Common.{◌≡◌, Ok, ap, ◌∙◌}
use Rattle.icu_char16trie.specs.Char16Json.{units_of}
use Rattle.icu_char16trie.proofs.JsonLemmas.{json_read}
use Rattle.icu_char16trie.proofs.trie.Char16Trie.to_json.Goals as goal

pub returns-clause-read_back : goal.returns-clause-read_back
returns-clause-read_back c =
    let whole : slice_values c.as_slice.result ≡ c.args.self.now = c.as_slice.ensures ∙ c.self.view_is in
    ap units_of c.in_ok-value.ensures.json ∙ json_read (slice_values c.as_slice.result) c.in_ok-value.ensures.small ∙ ap (λ z. Ok z) whole
