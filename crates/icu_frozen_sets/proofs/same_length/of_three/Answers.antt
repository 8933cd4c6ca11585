use Rattle.std.proofs.Common.{◌+◌, ◌-◌, ◌*◌, List, Option, Some, arith, inl, inr, subst, ℕ}
use Rattle.icu_utf.specs.Utf8.{IsFirstPart}
use Rattle.icu_utf.proofs.CallerLemmas.{bytes_of_three}
use Rattle.icu_frozen_sets.proofs.SameLengthLemmas.{same_part, three_part}
use Rattle.icu_frozen_sets.proofs.same_length.of_three.Goals as goal
use Rattle.icu_frozen_sets.proofs.same_length.of_three.Goals.{then-both-lt14496-via-else-both-lt14496+else-both-ge15488+then-both-eq479, then-both-lt14496-via-else-both-lt14496+then-both-ge15488, then-both-lt14496-via-then-both-lt14496, then-bytes-ne2-via-else-bytes-ne2+then-bytes-ne2-2, then-bytes-ne2-via-then-bytes-ne2}

pub returns-then-bytes-ne2-clause-all : goal.returns-then-bytes-ne2-clause-all
returns-then-bytes-ne2-clause-all c = λ d p.
    let b = bytes_of_three c.args.bytes.now d p in
    elim c.then-bytes-ne2.branch [
      | then-bytes-ne2-via-then-bytes-ne2 w ↦ absurd (omega (arith, w.if-bytes-ne2, b.1.second))
      | then-bytes-ne2-via-else-bytes-ne2+then-bytes-ne2-2 w ↦ absurd (omega (arith, w.if-bytes-ne2-2, b.1.third))
    ]

pub returns-then-both-lt14496-clause-all : goal.returns-then-both-lt14496-clause-all
returns-then-both-lt14496-clause-all c = λ d p.
    let b = bytes_of_three c.args.bytes.now d p in
    let e = c.from.ensures in
    let f = c.from-2.ensures in
    let first = b.1.first in
    let second = b.1.second in
    elim c.then-both-lt14496.branch [
      | then-both-lt14496-via-then-both-lt14496 w ↦ absurd (omega (arith, e, f, first, second, w.if-both-lt14496, b.2))
      | then-both-lt14496-via-else-both-lt14496+then-both-ge15488 w ↦ absurd (omega (arith, e, f, first, second, w.if-both-ge15488, b.3))
      | then-both-lt14496-via-else-both-lt14496+else-both-ge15488+then-both-eq479 w ↦ elim b.4 [
        | inl l ↦ absurd (omega (arith, e, f, first, second, w.if-both-eq479, l))
        | inr h ↦ absurd (omega (arith, e, f, first, second, w.if-both-eq479, h))
      ]
    ]

pub returns : goal.returns
returns c =
    let bytes : List ℕ = c.args.bytes.now in
    let both : ℕ = 64 * c.from.result + c.from-2.result in
    let e = c.from.ensures in
    let f = c.from-2.ensures in
    let p : IsFirstPart bytes (Some (64 * (both - 14464) + c.from-3.result)) 3 = rw c.from-3.ensures
    (three_part bytes both c.requires (omega (arith, c.if-bytes-ne2.false)) (omega (arith, c.if-bytes-ne2-2.false)) (omega (arith, e, f))
    (omega (arith, c.if-both-lt14496.false)) (omega (arith, c.if-both-ge15488.false)) (λ z. c.if-both-eq479.false z)) in
    record {
      found = λ d e. subst (λ (o : Option ℕ). IsFirstPart bytes o 3) e p;
      all = λ d q. same_part bytes _ d 3 p q;
    }
