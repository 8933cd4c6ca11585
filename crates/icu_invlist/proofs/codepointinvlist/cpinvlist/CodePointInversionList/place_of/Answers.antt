use Rattle.std.proofs.Common.{◌-◌, suc, arith}
use Rattle.icu_invlist.proofs.RunLemmas.{ends_below-le}
use Rattle.icu_invlist.proofs.ValidLists.{run_from_valid}
use Rattle.icu_invlist.proofs.PlaceLemmas.{place_behind, place_front, all_below}
use Rattle.icu_invlist.proofs.codepointinvlist.cpinvlist.CodePointInversionList.place_of.Goals as goal

pub place_between-requires-clause-from : goal.place_between-requires-clause-from
place_between-requires-clause-from c = place_behind c.args.self.now 0 c.args.c c.count-count.ensures.valid
    (let e = c.count-count.ensures.count in omega arith)
    (let e = c.end_at.ensures.end in let h = c.if-c-end_at.false in omega arith)

pub place_between-requires-clause-to : goal.place_between-requires-clause-to
place_between-requires-clause-to c = place_front c.args.self.now 16 c.args.c c.count-count.ensures.valid
    (let e = c.end_at-then-count-gt16.ensures.end in let h = c.if-c-end_at-2.true in omega arith)

pub place_between-requires-else-count-gt16-clause-from : goal.place_between-requires-else-count-gt16-clause-from
place_between-requires-else-count-gt16-clause-from c = place_behind c.args.self.now 0 c.args.c c.count-count.ensures.valid
    (let e = c.count-count.ensures.count in omega arith)
    (let e = c.end_at.ensures.end in let h = c.if-c-end_at.false in omega arith)

pub place_between-requires-else-count-gt16-clause-to : goal.place_between-requires-else-count-gt16-clause-to
place_between-requires-else-count-gt16-clause-to c =
    let p = place_front c.args.self.now (c.count-count.result - 1) c.args.c c.count-count.ensures.valid
    (let e = c.end_at-else-c-end_at.ensures.end in let h = c.if-end_at-c.false in omega arith) in omega arith

pub returns-then-count-le4-clause-within : goal.returns-then-count-le4-clause-within
returns-then-count-le4-clause-within c = let b = ends_below-le c.args.self.now (suc c.args.c) in let e = c.place_of_few.ensures in
    omega arith

pub returns-then-c-end_at-clause-place : goal.returns-then-c-end_at-clause-place
returns-then-c-end_at-clause-place c =
    let p = place_front c.args.self.now 0 c.args.c c.count-count.ensures.valid (let e = c.end_at.ensures.end in
    let t = c.if-c-end_at.true in omega arith) in omega arith

pub returns-then-end_at-c-clause-place : goal.returns-then-end_at-c-clause-place
returns-then-end_at-c-clause-place c =
    let e = c.count-count.ensures.count in
    all_below c.args.self.now c.count-count.result (suc c.args.c)
    (run_from_valid c.args.self.now c.count-count.ensures.valid) e (omega arith)
    (let k = c.end_at-else-c-end_at.ensures.end in let h = c.if-end_at-c.true in omega arith)

pub returns-then-c-end_at-2-clause-within : goal.returns-then-c-end_at-2-clause-within
returns-then-c-end_at-2-clause-within c = let b = ends_below-le c.args.self.now (suc c.args.c) in let e = c.place_between.ensures.place in
    omega arith

pub returns-else-count-gt16-clause-within : goal.returns-else-count-gt16-clause-within
returns-else-count-gt16-clause-within c = let b = ends_below-le c.args.self.now (suc c.args.c) in
    let e = c.place_between-else-count-gt16.ensures.place in omega arith
