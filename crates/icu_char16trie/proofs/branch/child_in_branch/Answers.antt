use Rattle.std.proofs.Common.{arith, refl, sym}
use Rattle.icu_char16trie.specs.Steps.{in_short, in_long, no_length}
use Rattle.icu_char16trie.proofs.branch.child_in_branch.Goals.{then-low-gt0, else-low-gt0+in_ok-unit_at}
use Rattle.icu_char16trie.proofs.branch.child_in_branch.Goals as goal

pub returns-in_err-unit_at-clause-exact : goal.returns-in_err-unit_at-clause-exact
returns-in_err-unit_at-clause-exact c =
    rw c.from_residual.ensures (no_length c.args.place c.args.low _ (omega (arith, c.if-low-gt0.false))
    (sym c.in_err-unit_at.ensures.unit) refl)

pub returns-clause-exact : goal.returns-clause-exact
returns-clause-exact c =
    elim c.if-low-gt0.branch [
      | then-low-gt0 w ↦
          in_short _ _ _ _ w.if-low-gt0.true c.requires.low (rw (c.from.ensures, w.part-is) at c.child_in_part.ensures.exact) refl
      | else-low-gt0+in_ok-unit_at w ↦
          in_long _ _ _ _ _ (omega (arith, w.if-low-gt0.false)) (sym w.in_ok-unit_at.ensures.unit)
          (rw (c.from.ensures, w.part-is) at c.child_in_part.ensures.exact) refl
    ]
