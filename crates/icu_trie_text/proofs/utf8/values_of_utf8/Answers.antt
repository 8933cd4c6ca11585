use Rattle.icu_trie_text.proofs.Utf8ValueLemmas.{values_of_bytes_drained, values_of_text}
use Rattle.icu_trie_text.proofs.utf8.values_of_utf8.Goals as goal

pub returns-clause-values : goal.returns-clause-values
returns-clause-values g c = rw (c.new.ensures, c.iter.ensures.rest) (λ items drained. values_of_bytes_drained _ items drained)

pub returns-clause-text : goal.returns-clause-text
returns-clause-text g c = rw (c.new.ensures, c.iter.ensures.rest)
    (λ utf8 items drained. values_of_text c.args.trie.now c.args.bytes.now items utf8 (values_of_bytes_drained _ items drained))
