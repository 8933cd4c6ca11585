-- The loop passes eight bytes at a time, and then those before the first one that is not ASCII.
use Rattle.std.proofs.Common.{◌≡◌, ℕ, ◌+◌, ◌-◌, ◌*◌, ◌<◌, arith, get_or, refl}
use Rattle.std.proofs.lemmas.Nat.Bits.{bit_at-zero}
use Rattle.icu_frozen_sets.proofs.AsciiBlockLemmas.{longer_run}
use Rattle.icu_frozen_sets.proofs.ascii_blocks.skip_ascii_blocks.Goals as goal

pub returns-then-high-gt0-clause-ascii : goal.returns-then-high-gt0-clause-ascii
returns-then-high-gt0-clause-ascii c =
    let end : ℕ = c.loop-end.end in
    let f = c.first_high.ensures in
    longer_run (λ b. b < 128) c.args.bytes.now c.args.start end (end + 8 - end) c.first_high.result
    (omega (arith, f.most)) c.loop-end.invariant.ascii
    (λ k l. c.high_bits-high.ensures k (omega (arith, l, f.most)) (f.before k l))

pub returns-then-high-gt0-clause-passed : goal.returns-then-high-gt0-clause-passed
returns-then-high-gt0-clause-passed c =
    let end : ℕ = c.loop-end.end in
    let f = c.first_high.ensures in
    longer_run (λ b. get_or c.args.others.now b 0 ≡ 0) c.args.bytes.now c.args.start end (end + 8 - end) c.first_high.result
    (omega (arith, f.most)) c.loop-end.invariant.passed
    (λ k l. c.if-not-are_plain.ensures refl k (omega (arith, l, f.most)))

pub loop-end-preserved : goal.loop-end-preserved
loop-end-preserved c =
    let end : ℕ = c.loop-end.end in
    let none : c.high_bits-high.result ≡ 0 = omega (arith, c.if-high-gt0.false) in
    record {
      order = omega (arith, c.loop-end.invariant.order);
      within = omega (arith, c.loop-end-test.true, c.loop-end.invariant.within);
      ascii = longer_run (λ b. b < 128) c.args.bytes.now c.args.start end (end + 8 - end) 8 (omega arith)
          c.loop-end.invariant.ascii (λ k l. c.high_bits-high.ensures k l (rw none (bit_at-zero (8 * k + 7))));
      passed = longer_run (λ b. get_or c.args.others.now b 0 ≡ 0) c.args.bytes.now c.args.start end (end + 8 - end) 8
          (omega arith) c.loop-end.invariant.passed (λ k l. c.if-not-are_plain.ensures refl k l);
    }
