use Rattle.std.proofs.Common.{◌≡◌, ◌∙◌, ◌+◌, ◌-◌, ℕ, ap, arith, get_or, inl, inr, sym}
use Rattle.std.proofs.lemmas.Bool.{cases_eq}
use Rattle.std.proofs.lemmas.Option.{get_or_from_slice_get}
use Rattle.icu_frozen_sets.proofs.FreezeLemmas.{below_last}
use Rattle.icu_frozen_sets.proofs.words.last_boundary.Goals as goal

pub returns-then-last-lt-CODE_POINT_LIMIT-clause-last : goal.returns-then-last-lt-CODE_POINT_LIMIT-clause-last
returns-then-last-lt-CODE_POINT_LIMIT-clause-last g c = λ i l.
    let xs = g.B.Boundaries.list c.args.ends in
    let k : ℕ = c.count-count.result - 1 in
    let count = c.count-count.ensures in
    let two = c.if-count-lt2.false in
    let e : c.at-last.result ≡ get_or xs k 0 = sym (get_or_from_slice_get xs k c.at-last.result 0 c.at-last.ensures) in
    inl (below_last xs k i c.at-last.result c.requires e (omega (arith, count, two)) (omega (arith, count, l, two)))

pub returns-then-last-lt-CODE_POINT_LIMIT-clause-least : goal.returns-then-last-lt-CODE_POINT_LIMIT-clause-least
returns-then-last-lt-CODE_POINT_LIMIT-clause-least g c = λ p above.
    let xs = g.B.Boundaries.list c.args.ends in
    let k : ℕ = c.count-count.result - 1 in
    let count = c.count-count.ensures in
    let two = c.if-count-lt2.false in
    let less = c.if-last-lt-CODE_POINT_LIMIT.true in
    let e : c.at-last.result ≡ get_or xs k 0 = sym (get_or_from_slice_get xs k c.at-last.result 0 c.at-last.ensures) in
    elim (above k (omega (arith, count, two))) [
      | inl h ↦ omega (arith, e, h)
      | inr q ↦ absurd (omega (arith, e, q, less))
    ]

pub returns-else-last-lt-CODE_POINT_LIMIT-clause-last : goal.returns-else-last-lt-CODE_POINT_LIMIT-clause-last
returns-else-last-lt-CODE_POINT_LIMIT-clause-last g c = λ i l.
    let xs = g.B.Boundaries.list c.args.ends in
    let k : ℕ = c.count-count.result - 1 in
    let j : ℕ = c.count-count.result - 2 in
    let count = c.count-count.ensures in
    let two = c.if-count-lt2.false in
    let more = c.if-last-lt-CODE_POINT_LIMIT.false in
    let e : c.at-last.result ≡ get_or xs k 0 = sym (get_or_from_slice_get xs k c.at-last.result 0 c.at-last.ensures) in
    let f : c.at.result ≡ get_or xs j 0 = sym (get_or_from_slice_get xs j c.at.result 0 c.at.ensures) in
    let most = c.requires.within k 0 (omega (arith, count, two)) in
    elim (cases_eq i k) [
      | inl q ↦ inr (ap (λ (n : ℕ). get_or xs n 0) q ∙ omega (arith, e, more, most))
      | inr n ↦ inl (below_last xs j i c.at.result c.requires f (omega (arith, count, two)) (omega (arith, count, two, l, n)))
    ]

pub returns-else-last-lt-CODE_POINT_LIMIT-clause-least : goal.returns-else-last-lt-CODE_POINT_LIMIT-clause-least
returns-else-last-lt-CODE_POINT_LIMIT-clause-least g c = λ p above.
    let xs = g.B.Boundaries.list c.args.ends in
    let j : ℕ = c.count-count.result - 2 in
    let count = c.count-count.ensures in
    let two = c.if-count-lt2.false in
    let f : c.at.result ≡ get_or xs j 0 = sym (get_or_from_slice_get xs j c.at.result 0 c.at.ensures) in
    let up = c.requires.ascending j (omega (arith, count, two)) in
    let most = c.requires.within (j + 1) 0 (omega (arith, count, two)) in
    elim (above j (omega (arith, count, two))) [
      | inl h ↦ omega (arith, f, h)
      | inr q ↦ absurd (omega (arith, q, up, most))
    ]
