use Rattle.std.proofs.Common.{◌+◌, ◌*◌, List, Option, Some, arith, subst, ℕ}
use Rattle.icu_utf.specs.Utf8.{IsFirstPart}
use Rattle.icu_utf.proofs.CallerLemmas.{bytes_of_two}
use Rattle.icu_frozen_sets.proofs.SameLengthLemmas.{same_part, two_part}
use Rattle.icu_frozen_sets.proofs.same_length.of_two.Goals as goal
use Rattle.icu_frozen_sets.proofs.same_length.of_two.Goals.{then-bytes-lt194-via-then-bytes-lt194, then-bytes-lt194-via-else-bytes-lt194+then-bytes-ge224, then-bytes-lt194-via-else-bytes-lt194+else-bytes-ge224+then-bytes-ne2}

pub returns-then-bytes-lt194-clause-all : goal.returns-then-bytes-lt194-clause-all
returns-then-bytes-lt194-clause-all c = λ d p.
    let b = bytes_of_two c.args.bytes.now d p in
    elim c.then-bytes-lt194.branch [
      | then-bytes-lt194-via-then-bytes-lt194 w ↦ absurd (omega (arith, w.if-bytes-lt194, b.0))
      | then-bytes-lt194-via-else-bytes-lt194+then-bytes-ge224 w ↦ absurd (omega (arith, w.if-bytes-ge224, b.1))
      | then-bytes-lt194-via-else-bytes-lt194+else-bytes-ge224+then-bytes-ne2 w ↦ absurd (omega (arith, w.if-bytes-ne2, b.2))
    ]

pub returns : goal.returns
returns c =
    let bytes : List ℕ = c.args.bytes.now in
    let p : IsFirstPart bytes (Some (64 * c.from.result + c.from-2.result)) 2 = rw (c.from.ensures, c.from-2.ensures)
    (two_part bytes c.requires (omega (arith, c.if-bytes-lt194.false)) (omega (arith, c.if-bytes-ge224.false))
    (omega (arith, c.if-bytes-ne2.false))) in
    record {
      found = λ d e. subst (λ (o : Option ℕ). IsFirstPart bytes o 2) e p;
      all = λ d q. same_part bytes _ d 2 p q;
    }
