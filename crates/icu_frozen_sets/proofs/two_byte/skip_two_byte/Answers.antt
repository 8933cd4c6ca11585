use Rattle.std.proofs.Common.{ℕ, ◌<◌, arith, get_or}
use Rattle.icu_frozen_sets.proofs.TwoByteLemmas.{past_part, past_whole}
use Rattle.icu_frozen_sets.proofs.two_byte.skip_two_byte.Goals as goal

pub returns-then-bytes-end-ge192-clause-passed : goal.returns-then-bytes-end-ge192-clause-passed
returns-then-bytes-end-ge192-clause-passed c = λ table held w all.
    let i = c.loop-end.invariant in
    let some : 0 < c.args.start = omega (arith, c.if-start-lt16.false) in
    let fits : (k : ℕ) → get_or c.args.bytes.now k 0 < 256 = λ k. let f = c.type_inv.bytes k in omega arith in
    past_part table held c.args.words.now c.args.bytes.now w fits c.args.start
    c.loop-end.end some i.order i.within c.if-bytes-start-ge192.false i.paired i.bits all c.if-bytes-end-ge192.true

pub returns-else-bytes-end-ge192-clause-passed : goal.returns-else-bytes-end-ge192-clause-passed
returns-else-bytes-end-ge192-clause-passed c = λ table held w all.
    let i = c.loop-end.invariant in
    let some : 0 < c.args.start = omega (arith, c.if-start-lt16.false) in
    let fits : (k : ℕ) → get_or c.args.bytes.now k 0 < 256 = λ k. let f = c.type_inv.bytes k in omega arith in
    past_whole table held c.args.words.now c.args.bytes.now w fits c.args.start
    c.loop-end.end some i.order i.within c.if-bytes-start-ge192.false i.paired i.bits all c.if-bytes-end-ge192.false
