use Rattle.std.proofs.Common.{◌+◌, suc, arith}
use Rattle.std.specs.Prelude.{nat_le}
use Rattle.icu_invlist.specs.InversionList.{IsValid}
use Rattle.icu_invlist.specs.Inside.Places.{ends_below}
use Rattle.icu_invlist.proofs.PlaceLemmas.{up_to_end, valid-length}
use Rattle.icu_invlist.proofs.Searches.{byte_small, one_counted, two_counted}
use Rattle.icu_invlist.proofs.codepointinvlist.cpinvlist.CodePointInversionList.place_of_two.Goals as goal

pub overflow_add-result : goal.overflow_add-result
overflow_add-result c = let l = valid-length c.args.self.now (rw (← c.self.view_is) c.self.invariant.0) in
    let w = c.requires.within in
    let a = byte_small (nat_le c.end_at.result c.args.c) in omega arith

pub returns-then-size-eq1 : goal.returns-then-size-eq1
returns-then-size-eq1 c =
    let one = c.if-size-eq1.true in
    let o = one_counted (ends_below c.args.self.now (suc c.args.c)) c.args.low c.args.size _ (omega arith) c.requires.from c.requires.to
    (up_to_end c.args.self.now c.args.low c.args.c c.end_at.result (rw (← c.self.view_is) c.self.invariant.0) (
    let w = c.requires.within in omega arith)
    c.end_at.ensures.end) in
    let a = o.0 in let b = o.1 in omega arith

pub overflow_add-low : goal.overflow_add-low
overflow_add-low c = let l = valid-length c.args.self.now (rw (← c.self.view_is) c.self.invariant.0) in
    let w = c.requires.within in omega arith

pub overflow_add-result-2 : goal.overflow_add-result-2
overflow_add-result-2 c = let l = valid-length c.args.self.now (rw (← c.self.view_is) c.self.invariant.0) in
    let w = c.requires.within in
    let a = byte_small (nat_le c.end_at.result c.args.c) in omega arith

pub overflow_add-result-3 : goal.overflow_add-result-3
overflow_add-result-3 c = let l = valid-length c.args.self.now (rw (← c.self.view_is) c.self.invariant.0) in
    let w = c.requires.within in
    let a = byte_small (nat_le c.end_at.result c.args.c) in let b = byte_small (nat_le c.end_at-2.result c.args.c) in omega arith

pub returns : goal.returns
returns c =
    let v : IsValid c.args.self.now = rw (← c.self.view_is) c.self.invariant.0 in
    let none = c.if-size-eq0.false in
    let one = c.if-size-eq1.false in
    let w = c.requires.within in
    two_counted (ends_below c.args.self.now (suc c.args.c)) c.args.low _ _ c.requires.from
    (let t = c.requires.to in let f = c.requires.few in omega arith)
    (up_to_end c.args.self.now c.args.low c.args.c c.end_at.result v (omega arith) c.end_at.ensures.end)
    (up_to_end c.args.self.now (c.args.low + 1) c.args.c c.end_at-2.result v (omega arith) c.end_at-2.ensures.end)
