use Rattle.icu_zerovec.specs.Slice.{slice_values}
use Rattle.std.proofs.Common.{sym, refl, ◌≡◌, ◌+◌, ◌-◌, arith}
use Rattle.icu_char16trie.specs.Steps.{in_run, in_short, in_long, no_length}
use Rattle.icu_char16trie.proofs.NodeLemmas.{matches_run}
use Rattle.icu_char16trie.proofs.step.step_in_match.Goals as goal

pub returns-then-low-ge-MIN_LINEAR_MATCH-clause-stands : goal.returns-then-low-ge-MIN_LINEAR_MATCH-clause-stands
returns-then-low-ge-MIN_LINEAR_MATCH-clause-stands c = λ m h.
    let same : (c.args.low - 48) + 1 ≡ c.args.low - 47 = omega arith in
    c.step_in_run.ensures.stands m (rw same (matches_run (slice_values c.args.units) h c.if-low-ge-MIN_LINEAR_MATCH.true))

pub returns-then-low-ge-MIN_LINEAR_MATCH-clause-exact : goal.returns-then-low-ge-MIN_LINEAR_MATCH-clause-exact
returns-then-low-ge-MIN_LINEAR_MATCH-clause-exact c = in_run _ _ _ c.if-low-ge-MIN_LINEAR_MATCH.true c.step_in_run.ensures.exact

pub returns-then-low-gt0-clause-exact : goal.returns-then-low-gt0-clause-exact
returns-then-low-gt0-clause-exact c =
    let e = c.step_in_branch.ensures.exact in in_short _ _ e.0 _ c.if-low-gt0.true c.if-low-ge-MIN_LINEAR_MATCH.false
    (rw c.from.ensures at e.1) e.2

pub returns-in-Some-clause-exact : goal.returns-in-Some-clause-exact
returns-in-Some-clause-exact c =
    let e = c.step_in_branch-in-Some.ensures.exact in
    in_long _ _ c.in-Some.length e.0 _ (omega arith) (sym c.in-Some.ensures.unit) (rw c.from-in-Some.ensures at e.1) e.2

pub returns-in-None-clause-exact : goal.returns-in-None-clause-exact
returns-in-None-clause-exact c = no_length _ _ _ (omega arith) (sym c.in-None.ensures.unit) refl
