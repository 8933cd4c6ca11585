use Rattle.std.proofs.Common.{◌≡◌, ◌≤◌, ℕ, ◌∷◌, [], true, length, take, arith, sym, ap, subst, ◌∙◌}
use Rattle.std.specs.List.{AllPass}
use Rattle.std.proofs.lemmas.List.{take-take, length-take}
use Rattle.std.proofs.lemmas.List.Elements.{All-append, All-cons, All-nil}
use Rattle.icu_trie_builder.proofs.DataLemmas.{end-push, kept-push, before-push, high-end, last-end}
use Rattle.icu_trie_builder.proofs.data.push_end.Goals as goal

pub returns-clause-kept : goal.returns-clause-kept
returns-clause-kept c =
    let old = c.args.values.now.items in
    let middle = c.push_high.new.values.items in
    let k = c.in_ok-push_high.ensures.kept in
    let longer : length old ≤ length middle = omega (arith, ap length k, length-take (length old) middle) in
    sym (take-take (length old) (length middle) c.push.new.self.items longer)
    ∙ (ap (take (length old)) (kept-push middle c.push.new.self.items c.args.error c.in_ok-push.ensures.items) ∙ k)

pub returns-clause-high : goal.returns-clause-high
returns-clause-high c =
    let old = c.args.values.now.items in
    let middle = c.push_high.new.values.items in
    let k = c.in_ok-push_high.ensures.kept in
    let some : 2 ≤ length middle = omega (arith, ap length k, length-take (length old) middle, c.requires) in
    let e = end-push middle c.push.new.self.items c.args.error c.in_ok-push.ensures.items in
    high-end c.push.new.self.items c.args.high (omega (arith, e.0, some))
    (before-push middle c.push.new.self.items c.args.error c.in_ok-push.ensures.items (omega (arith, some))
    ∙ c.in_ok-push_high.ensures.last)

pub returns-clause-error : goal.returns-clause-error
returns-clause-error c =
    let e = end-push c.push_high.new.values.items c.push.new.self.items c.args.error c.in_ok-push.ensures.items in
    last-end c.push.new.self.items c.args.error (omega (arith, e.0)) e.1

pub returns-clause-drawn : goal.returns-clause-drawn
returns-clause-drawn c = λ p pass high end.
    let P : ℕ → Type 0 = λ x. p x ≡ true in
    let middle = c.push_high.new.values.items in
    subst (λ xs. AllPass p xs) (sym c.in_ok-push.ensures.items)
    (All-append P middle (c.args.error ∷ []) (c.in_ok-push_high.ensures.drawn p pass high) (All-cons P c.args.error [] end (All-nil P)))
