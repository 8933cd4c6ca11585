use Rattle.std.proofs.Common.{inl}
use Rattle.icu_utf.proofs.CallerLemmas.{not_first}
use Rattle.icu_trie_text.proofs.utf8.character_item.Goals as goal

pub returns-then-lead-lt194 : goal.returns-then-lead-lt194
returns-then-lead-lt194 g c = (not_first c.args.bytes.now c.requires c.if-lead-lt128.false (inl c.if-lead-lt194.true)).no_character
