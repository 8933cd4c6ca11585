use Rattle.examples.proofs.categories.categories_of.Goals as goal

pub returns : goal.returns
returns c = λ n. c.in_ok-trie.ensures.trie.answers.value n
