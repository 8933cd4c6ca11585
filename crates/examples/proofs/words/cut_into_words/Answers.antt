use Rattle.std.proofs.Common.{◌≡◌, [], rules, subst}
use Rattle.std.proofs.lemmas.List.{append-nil, nil_from_length}
use Rattle.examples.specs.Pieces.{AreWords}
use Rattle.examples.proofs.words.cut_into_words.Goals as goal

pub returns : goal.returns
returns c = λ m trie.
    let ended : c.loop-rest.rest.now ≡ [] = nil_from_length c.loop-rest.rest.now (search rules) in
    subst (λ z. AreWords m c.args.text.now z) (append-nil c.loop-rest.lengths.items) (c.loop-rest.invariant.words m trie [] ended)
