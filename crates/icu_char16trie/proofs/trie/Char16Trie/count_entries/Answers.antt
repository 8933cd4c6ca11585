use Rattle.icu_zerovec.specs.Slice.{slice_values}
use Rattle.std.proofs.Common.{◌≡◌, ◌∙◌, sym}
use Rattle.icu_char16trie.proofs.CountLemmas.{empty_none}
use Rattle.icu_char16trie.proofs.trie.Char16Trie.count_entries.Goals as goal

pub returns-then-is_empty-clause-none : goal.returns-then-is_empty-clause-none
returns-then-is_empty-clause-none c =
    let same : slice_values c.as_slice-units.result ≡ c.args.self.now = c.as_slice-units.ensures ∙ c.self.view_is in
    empty_none c.args.self.now 0 (sym same ∙ c.is_empty.ensures.0 c.if-is_empty.true)
