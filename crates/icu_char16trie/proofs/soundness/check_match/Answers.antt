use Rattle.icu_zerovec.specs.Slice.{slice_values}
use Rattle.std.proofs.Common.{◌+◌, ap, arith, sym}
use Rattle.icu_char16trie.proofs.SoundnessLemmas.{branch_rests, long_len, long_start, no_branch, no_run, on_both, run_rests, short_len, short_start}
use Rattle.icu_char16trie.proofs.soundness.check_match.Goals as goal

pub returns-then-low-ge-MIN_LINEAR_MATCH : goal.returns-then-low-ge-MIN_LINEAR_MATCH
returns-then-low-ge-MIN_LINEAR_MATCH c =
    let place = ap (λ z. c.args.place + z) c.run_len.ensures in
    on_both c.want.result
    (λ past. no_run _ _ _ _ c.if-low-ge-MIN_LINEAR_MATCH.true place (omega (arith, past)))
    (λ _ h. rw h.1 (run_rests _ _ _ _ _ c.if-low-ge-MIN_LINEAR_MATCH.true c.requires.low place (omega (arith, h.0))))
    c.want.ensures

pub returns-in_err-check_part : goal.returns-in_err-check_part
returns-in_err-check_part c =
    rw c.from_residual.ensures
    (no_branch _ c.args.place c.args.low c.args.low _ c.if-low-ge-MIN_LINEAR_MATCH.false
    (short_len (slice_values c.args.units) c.args.place c.args.low c.if-low-gt0.true)
    (short_start c.args.place c.args.low c.if-low-gt0.true)
    (rw c.from.ensures at c.in_err-check_part.ensures))

pub returns-then-low-gt0 : goal.returns-then-low-gt0
returns-then-low-gt0 c =
    branch_rests _ c.args.place c.args.low c.args.low _ _ _ _ c.if-low-ge-MIN_LINEAR_MATCH.false
    (short_len (slice_values c.args.units) c.args.place c.args.low c.if-low-gt0.true) c.if-low-gt0.true
    (short_start c.args.place c.args.low c.if-low-gt0.true) (omega arith)
    (rw c.from.ensures at c.in_ok-check_part.ensures)

pub returns-in_err-check_part-2 : goal.returns-in_err-check_part-2
returns-in_err-check_part-2 c =
    rw c.from_residual-in_err-check_part-2.ensures
    (no_branch _ c.args.place c.args.low c.in_ok-length.length _ c.if-low-ge-MIN_LINEAR_MATCH.false
    (long_len (slice_values c.args.units) c.args.place c.args.low _ c.if-low-gt0.false (sym c.in_ok-length.ensures.unit))
    (long_start c.args.place c.args.low c.if-low-gt0.false)
    (rw c.from-2.ensures at c.in_err-check_part-2.ensures))

pub returns : goal.returns
returns c =
    branch_rests _ c.args.place c.args.low c.in_ok-length.length _ _ _ _ c.if-low-ge-MIN_LINEAR_MATCH.false
    (long_len (slice_values c.args.units) c.args.place c.args.low _ c.if-low-gt0.false (sym c.in_ok-length.ensures.unit)) (omega arith)
    (long_start c.args.place c.args.low c.if-low-gt0.false) (omega arith)
    (rw c.from-2.ensures at c.in_ok-check_part-2.ensures)
