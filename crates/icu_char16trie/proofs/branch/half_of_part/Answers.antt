use Rattle.std.proofs.Common.{◌+◌, arith, sym, refl}
use Rattle.icu_char16trie.specs.Steps.{cut_delta}
use Rattle.icu_char16trie.proofs.PartLemmas.{part_cut, near_end, near_lower, lower_leads, upper_leads}
use Rattle.icu_char16trie.proofs.branch.half_of_part.Goals.{then-unit-split, else-unit-split}
use Rattle.icu_char16trie.proofs.branch.half_of_part.Goals as goal

pub returns-in_err-split : goal.returns-in_err-split
returns-in_err-split c = rw c.from_residual.ensures (part_cut _ _ _ _ c.requires.many c.in_err-split.ensures.two)

pub returns-then-delta-lt-MIN_TWO_UNIT_DELTA_LEAD : goal.returns-then-delta-lt-MIN_TWO_UNIT_DELTA_LEAD
returns-then-delta-lt-MIN_TWO_UNIT_DELTA_LEAD c =
    let two = c.in_ok-split.ensures.two in
    elim c.if-unit-split.branch [
      | then-unit-split w ↦
          rw (w.low-is, w.from.ensures)
          (lower_leads _ _ _ _ c.in_ok-split.split c.in_ok-split.delta _ c.requires.many two.0 two.1 w.if-unit-split.true
          (near_lower _ _ _ c.if-delta-lt-MIN_TWO_UNIT_DELTA_LEAD.true)
          (omega (arith, c.if-delta-lt-MIN_TWO_UNIT_DELTA_LEAD.true, c.in_ok-split.ensures.within)))
      | else-unit-split w ↦
          rw w.low-is
          (upper_leads _ _ _ _ c.in_ok-split.split c.in_ok-split.delta _ c.requires.many two.0 two.1 w.if-unit-split.false
          (omega (arith, near_end (c.args.part + 2) c.in_ok-split.delta c.if-delta-lt-MIN_TWO_UNIT_DELTA_LEAD.true))
          (omega (arith, c.in_ok-split.ensures.within)))
    ]

pub returns-in_err-low : goal.returns-in_err-low
returns-in_err-low c =
    let two = c.in_ok-split.ensures.two in
    rw c.from_residual-in_err-low.ensures
    (cut_delta _ _ c.in_ok-split.split c.in_ok-split.delta _ c.requires.many two.0 c.if-unit-split-2.true two.1
    (sym c.in_err-low.ensures.part) refl)

pub returns-in_ok-low : goal.returns-in_ok-low
returns-in_ok-low c =
    let two = c.in_ok-split.ensures.two in
    lower_leads _ _ _ _ c.in_ok-split.split c.in_ok-split.delta _ c.requires.many two.0 two.1 c.if-unit-split-2.true
    (sym c.in_ok-low.ensures.part) (omega (arith, c.in_ok-low.ensures.near, c.in_ok-split.ensures.within))

pub returns-else-unit-split-2 : goal.returns-else-unit-split-2
returns-else-unit-split-2 c =
    let two = c.in_ok-split.ensures.two in
    upper_leads _ _ _ _ c.in_ok-split.split c.in_ok-split.delta _ c.requires.many two.0 two.1 c.if-unit-split-2.false
    c.delta_end.ensures.end (omega (arith, c.delta_end.ensures.near, c.in_ok-split.ensures.within))
