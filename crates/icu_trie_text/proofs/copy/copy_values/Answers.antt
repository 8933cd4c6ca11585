use Rattle.icu_trie_text.proofs.CopiedItems.{copied_items, copied_text}
use Rattle.icu_trie_text.proofs.copy.copy_values.Goals as goal

pub returns-clause-values : goal.returns-clause-values
returns-clause-values g c =
    copied_items c.args.trie.now c.args.bytes.now c.args.values.now c.copy_parts.new.values c.copy_parts.result c.copy_parts.auto.values
    (rw c.new.ensures at c.copy_parts.ensures)

pub returns-clause-text : goal.returns-clause-text
returns-clause-text g c =
    copied_text c.args.trie.now c.args.bytes.now c.args.values.now c.copy_parts.new.values c.copy_parts.result (returns-clause-values g c)
