use Rattle.std.proofs.Common.{◌≡◌, ◌+◌, Ok, rules, sym}
use Rattle.icu_collections.specs.CodePointTrieBuilder.{answer_after}
use Rattle.examples.proofs.tables.next_value.Goals as goal

pub returns-in-Ok : goal.returns-in-Ok
returns-in-Ok c =
    let same = c.in-Ok.ensures.value (λ x. Ok (x + 1)) (λ s x r t k. search rules) c.args.c in
    let answered = c.in_ok-trie.ensures.trie.answers.value c.args.c in
    let both = rw (sym c.get32.ensures, answered) at same in
    let end : c.get32.result ≡ answer_after 0 9 c.args.rows.now c.args.c + 1 = cc in end
