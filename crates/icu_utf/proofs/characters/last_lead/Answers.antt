use Rattle.std.proofs.Common.{arith, inl, inr}
use Rattle.icu_utf.proofs.CharacterLemmas.{last_lead, more_trails, no_trails}
use Rattle.icu_utf.proofs.characters.last_lead.Goals as goal

pub bounds-bytes-start : goal.bounds-bytes-start
bounds-bytes-start c = c.loop-start.invariant.within

pub overflow_sub-last-in-loop-start : goal.overflow_sub-last-in-loop-start
overflow_sub-last-in-loop-start c = let within = c.loop-start.invariant.within in omega arith

pub loop-start-init : goal.loop-start-init
loop-start-init c = no_trails c.args.bytes.now c.requires

pub loop-start-preserved : goal.loop-start-preserved
loop-start-preserved c =
    more_trails c.args.bytes.now c.loop-start.start c.loop-start.invariant (omega (arith, c.loop-start-test.true))
    (omega (arith, c.if-last-start-lt3.true, c.loop-start.invariant.within)) c.if-bytes-start-ge128.true c.if-bytes-start-lt192.true

pub returns-else-bytes-start-lt192 : goal.returns-else-bytes-start-lt192
returns-else-bytes-start-lt192 c =
    last_lead c.args.bytes.now c.loop-start.start c.loop-start.invariant (inr (inr (inr c.if-bytes-start-lt192.false)))

pub returns-else-bytes-start-ge128 : goal.returns-else-bytes-start-ge128
returns-else-bytes-start-ge128 c =
    last_lead c.args.bytes.now c.loop-start.start c.loop-start.invariant (inr (inr (inl c.if-bytes-start-ge128.false)))

pub returns-else-last-start-lt3 : goal.returns-else-last-start-lt3
returns-else-last-start-lt3 c =
    last_lead c.args.bytes.now c.loop-start.start c.loop-start.invariant
    (inr (inl (omega (arith, c.if-last-start-lt3.false, c.loop-start.invariant.within, c.loop-start.invariant.near))))

pub returns-after-loop-start : goal.returns-after-loop-start
returns-after-loop-start c =
    last_lead c.args.bytes.now c.loop-start.start c.loop-start.invariant (inl (omega (arith, c.loop-start-test.false)))
