-- Each round passes some characters of one size, or leaves the rest to `frozen_span_from`.
use Rattle.std.proofs.Common.{◌≤◌, List, arith, length, ℕ}
use Rattle.icu_frozen_sets.specs.FrozenWords.{is_held}
use Rattle.icu_frozen_sets.proofs.LongestSpanLemmas.{span_to_end}
use Rattle.icu_frozen_sets.proofs.ThreeByteLemmas.{span_passed}
use Rattle.icu_frozen_sets.proofs.longest_span.near_span_from.Goals as goal

pub returns-then-passed-ge-LONG : goal.returns-then-passed-ge-LONG
returns-then-passed-ge-LONG c = λ all. c.long_span.ensures.exact (c.loop-passed.invariant.alike all)

pub returns-then-near : goal.returns-then-near
returns-then-near c = λ all.
    span_passed (Unit {0}) (is_held c.args.table.now) c.args.held c.args.bytes.now c.loop-passed.passed c.skip_same_length-near.result
    c.skip_same_length-near.ensures.passed tt c.if-near.true (c.loop-passed.invariant.alike all)

pub returns-then-near-passed : goal.returns-then-near-passed
returns-then-near-passed c = λ all. c.frozen_span_from.ensures (c.loop-passed.invariant.alike all)

pub loop-passed-preserved : goal.loop-passed-preserved
loop-passed-preserved c = record {
  within = c.skip_same_length-near.ensures.passed.within;
  alike = λ all. c.skip_same_length-near.ensures.passed.alike tt (c.loop-passed.invariant.alike all);
}

pub returns : goal.returns
returns c = λ all.
    let bytes : List ℕ = c.args.bytes.now in
    let n : ℕ = c.loop-passed.passed in
    let within : n ≤ length bytes = c.loop-passed.invariant.within in
    span_to_end (is_held c.args.table.now) c.args.held bytes n within (c.loop-passed.invariant.alike all)
    (omega (arith, within, c.loop-passed-test.false))
