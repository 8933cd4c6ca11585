use Rattle.icu_char16trie.proofs.walk.Walk.next_entry.Goals as goal

pub returns-in-Ok-true-clause-tells : goal.returns-in-Ok-true-clause-tells
returns-in-Ok-true-clause-tells c = λ m g. (rw c.in-Ok-true.field-0-test at c.in-Ok-true.ensures.finds).entries m g

pub returns-in-Ok-false-clause-tells : goal.returns-in-Ok-false-clause-tells
returns-in-Ok-false-clause-tells c = λ m g. (rw c.in-Ok-false.field-0-test at c.in-Ok-false.ensures.finds).entries m g
