use Rattle.std.proofs.Common.{◌≡◌, ◌+◌, arith, sym, refl, true}
use Rattle.std.proofs.lemmas.Bool.{both_ways}
use Rattle.std.proofs.lemmas.Result.{on_ok_weaker}
use Rattle.icu_invlist.specs.Inside.Places.{ends_below}
use Rattle.icu_invlist.proofs.RunLemmas.{ends_below-mono}
use Rattle.icu_invlist.proofs.ValidLists.{run_from_valid}
use Rattle.icu_invlist.proofs.Splices.{filled, room}
use Rattle.icu_invlist.proofs.fill.fill.Goals as goal
use Rattle.icu_invlist.proofs.fill.fill.Goals.{else-first-via-then-first+then-second+else-lower-upper, else-first-via-then-first+else-second, else-first-via-else-first}

pub count_below-lower-requires : goal.count_below-lower-requires
count_below-lower-requires c = rw c.deref.ensures.value (run_from_valid _ c.requires.valid)

pub count_below_from-upper-requires-clause-rises : goal.count_below_from-upper-requires-clause-rises
count_below_from-upper-requires-clause-rises c = rw c.deref-2.ensures.value (run_from_valid _ c.requires.valid)

pub count_below_from-upper-requires-clause-from : goal.count_below_from-upper-requires-clause-from
count_below_from-upper-requires-clause-from c = rw (c.count_below-lower.ensures.count, c.deref.ensures.value, c.deref-2.ensures.value)
    (ends_below-mono c.args.ends.now.items c.args.start (c.args.end + 1) (let r = c.requires.rises in omega arith))

pub overwrite-requires-clause-room : goal.overwrite-requires-clause-room
overwrite-requires-clause-room c =
    let i : c.count_below-lower.result ≡ ends_below c.args.ends.now.items c.args.start = cc in
    let j : c.count_below_from-upper.result ≡ ends_below c.args.ends.now.items (c.args.end + 1) = cc in
    room c.args.ends.now.items c.count_below-lower.result c.count_below_from-upper.result c.args.start c.args.end c.args.value
    c.requires.rises i j
    (elim c.else-first.branch [
      | else-first-via-then-first+then-second+else-lower-upper w ↦ (λ a b e. w.if-lower-upper.false e)
      | else-first-via-then-first+else-second w ↦ (λ a b e. both_ways _ w.if-second.false b)
      | else-first-via-else-first w ↦ (λ a b e. both_ways _ w.if-first.false a)
    ])

pub returns-else-first-clause-ok : goal.returns-else-first-clause-ok
returns-else-first-clause-ok c =
    (filled c.args.ends.now.items c.overwrite.new.ends.items c.count_below-lower.result c.count_below_from-upper.result c.args.start
    c.args.end c.args.value _ _
    c.requires.valid c.requires.rises c.requires.within (cc) (cc) refl refl c.overwrite.ensures).0

pub returns-else-first-clause-set : goal.returns-else-first-clause-set
returns-else-first-clause-set c =
    (filled c.args.ends.now.items c.overwrite.new.ends.items c.count_below-lower.result c.count_below_from-upper.result c.args.start
    c.args.end c.args.value _ _
    c.requires.valid c.requires.rises c.requires.within (cc) (cc) refl refl c.overwrite.ensures).1

pub returns-then-lower-upper-clause-ok : goal.returns-then-lower-upper-clause-ok
returns-then-lower-upper-clause-ok c = on_ok_weaker c.insert_two.result
    (λ y. (filled c.args.ends.now.items c.insert_two.new.ends.items c.count_below-lower.result c.count_below-lower.result c.args.start
    c.args.end c.args.value true true
    c.requires.valid c.requires.rises c.requires.within (cc) (cc) (sym c.if-first.true)
    (let e : c.count_below-lower.result ≡ c.count_below_from-upper.result = c.if-lower-upper.true in rw e (sym c.if-second.true)) y).0)
    c.insert_two.ensures.ok

pub returns-then-lower-upper-clause-set : goal.returns-then-lower-upper-clause-set
returns-then-lower-upper-clause-set c = on_ok_weaker c.insert_two.result
    (λ y. (filled c.args.ends.now.items c.insert_two.new.ends.items c.count_below-lower.result c.count_below-lower.result c.args.start
    c.args.end c.args.value true true
    c.requires.valid c.requires.rises c.requires.within (cc) (cc) (sym c.if-first.true)
    (let e : c.count_below-lower.result ≡ c.count_below_from-upper.result = c.if-lower-upper.true in rw e (sym c.if-second.true)) y).1)
    c.insert_two.ensures.ok
