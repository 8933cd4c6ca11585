use Rattle.std.proofs.Common.{◌≡◌, ℕ, ◌∷◌, [], true, sym, subst}
use Rattle.std.specs.List.{AllPass}
use Rattle.std.proofs.lemmas.List.Elements.{All-append, All-cons, All-nil}
use Rattle.icu_trie_builder.proofs.DataLemmas.{end-push, kept-push}
use Rattle.icu_trie_builder.proofs.data.push_high.Goals as goal

pub returns-clause-kept : goal.returns-clause-kept
returns-clause-kept c = kept-push c.args.values.now.items c.push.new.self.items c.args.high c.in_ok-push.ensures.items

pub returns-clause-last : goal.returns-clause-last
returns-clause-last c = (end-push c.args.values.now.items c.push.new.self.items c.args.high c.in_ok-push.ensures.items).1

pub returns-clause-drawn : goal.returns-clause-drawn
returns-clause-drawn c = λ p pass end.
    let P : ℕ → Type 0 = λ x. p x ≡ true in
    subst (λ xs. AllPass p xs) (sym c.in_ok-push.ensures.items)
    (All-append P c.args.values.now.items (c.args.high ∷ []) pass (All-cons P c.args.high [] end (All-nil P)))
