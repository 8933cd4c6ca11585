use Rattle.std.proofs.Common.{◌+◌, ◌-◌, ◌*◌, List, Option, Some, arith, subst, ℕ}
use Rattle.icu_utf.specs.Utf8.{IsFirstPart}
use Rattle.icu_utf.proofs.CallerLemmas.{bytes_of_four}
use Rattle.icu_frozen_sets.proofs.SameLengthLemmas.{four_part, same_part}
use Rattle.icu_frozen_sets.proofs.same_length.of_four.Goals as goal
use Rattle.icu_frozen_sets.proofs.same_length.of_four.Goals.{then-both-lt15504-via-else-both-lt15504+then-both-ge15760, then-both-lt15504-via-then-both-lt15504, then-bytes-ne2-via-else-bytes-ne2+else-bytes-ne2-2+then-bytes-ne2-3, then-bytes-ne2-via-else-bytes-ne2+then-bytes-ne2-2, then-bytes-ne2-via-then-bytes-ne2}

pub returns-then-bytes-ne2-clause-all : goal.returns-then-bytes-ne2-clause-all
returns-then-bytes-ne2-clause-all c = λ d p.
    let b = bytes_of_four c.args.bytes.now d p in
    elim c.then-bytes-ne2.branch [
      | then-bytes-ne2-via-then-bytes-ne2 w ↦ absurd (omega (arith, w.if-bytes-ne2, b.1.second))
      | then-bytes-ne2-via-else-bytes-ne2+then-bytes-ne2-2 w ↦ absurd (omega (arith, w.if-bytes-ne2-2, b.1.third))
      | then-bytes-ne2-via-else-bytes-ne2+else-bytes-ne2-2+then-bytes-ne2-3 w ↦ absurd (omega (arith, w.if-bytes-ne2-3, b.2))
    ]

pub returns-then-both-lt15504-clause-all : goal.returns-then-both-lt15504-clause-all
returns-then-both-lt15504-clause-all c = λ d p.
    let b = bytes_of_four c.args.bytes.now d p in
    let e = c.from-lead.ensures in
    let f = c.from.ensures in
    let first = b.1.first in
    let second = b.1.second in
    elim c.then-both-lt15504.branch [
      | then-both-lt15504-via-then-both-lt15504 w ↦ absurd (omega (arith, e, f, first, second, w.if-both-lt15504, b.3))
      | then-both-lt15504-via-else-both-lt15504+then-both-ge15760 w ↦ absurd (omega (arith, e, f, first, second, w.if-both-ge15760, b.4))
    ]

pub returns : goal.returns
returns c =
    let bytes : List ℕ = c.args.bytes.now in
    let both : ℕ = 64 * c.from-lead.result + c.from.result in
    let e = c.from-lead.ensures in
    let f = c.from.ensures in
    let last : ℕ = 64 * c.from-2.result + c.from-3.result in
    let p : IsFirstPart bytes (Some (4096 * (both - 15488) + last)) 4 = rw (c.from-2.ensures, c.from-3.ensures)
    (four_part bytes both c.requires (omega (arith, c.if-bytes-ne2.false)) (omega (arith, c.if-bytes-ne2-2.false))
    (omega (arith, c.if-bytes-ne2-3.false)) (omega (arith, e, f)) (omega (arith, c.if-both-lt15504.false))
    (omega (arith, c.if-both-ge15760.false))) in
    record {
      found = λ d e. subst (λ (o : Option ℕ). IsFirstPart bytes o 4) e p;
      all = λ d q. same_part bytes _ d 4 p q;
    }
