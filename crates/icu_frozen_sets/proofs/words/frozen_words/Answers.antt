use Rattle.std.proofs.Common.{◌≡◌, ◌+◌, ◌*◌, ◌<◌, drop, get_or, length, sym, arith}
use Rattle.std.proofs.lemmas.Option.{get_or_from_slice_get}
use Rattle.icu_invlist.specs.InversionList.{ranges_of}
use Rattle.icu_invlist.proofs.CallerLemmas.{ranges_apart, ranges_hold, ranges_within}
use Rattle.icu_frozen_sets.proofs.FreezeLemmas.{enough_first, freezes_more, freezes_none, frozen_all, next_range, no_range_left, range_above, range_within}
use Rattle.icu_frozen_sets.proofs.words.frozen_words.Goals as goal

pub loop-i-init : goal.loop-i-init
loop-i-init g c =
    let xs = g.B.Boundaries.list c.args.ends in
    let f = c.in_ok-filling.filling in
    let e = c.in_ok-filling.ensures in
    let last = c.last_boundary.ensures in
    let enough = enough_first xs f.bits c.last_boundary.result last.last last.least e.own e.short in
    freezes_none xs (ranges_of xs) f.bits f.block f.at e.filling enough e.below
    (ranges_apart xs c.requires) (ranges_within xs c.requires) (λ k. ranges_hold xs k c.requires)

pub add-requires-clause-below : goal.add-requires-clause-below
add-requires-clause-below g c =
    let xs = g.B.Boundaries.list c.args.ends in
    let i = c.loop-i.i in
    let f = c.loop-i.filling in
    let there : 2 * i + 1 < length xs = omega (arith, c.loop-i-test.true, c.count-ranges.ensures) in
    let start : c.at.result ≡ get_or xs (2 * i) 0 = sym (get_or_from_slice_get xs (2 * i) c.at.result 0 c.at.ensures) in
    rw start (range_above xs (ranges_of (drop (2 * i) xs)) (ranges_of (drop (2 * (i + 1)) xs)) _ (next_range xs i there)
    f.bits f.block f.at c.loop-i.invariant)

pub add-requires-clause-some : goal.add-requires-clause-some
add-requires-clause-some g c =
    let xs = g.B.Boundaries.list c.args.ends in
    let i = c.loop-i.i in
    let there : 2 * i + 1 < length xs = omega (arith, c.loop-i-test.true, c.count-ranges.ensures) in
    let start : c.at.result ≡ get_or xs (2 * i) 0 = sym (get_or_from_slice_get xs (2 * i) c.at.result 0 c.at.ensures) in
    let end : c.at-in-loop-i.result ≡ get_or xs (2 * i + 1) 0 =
    sym (get_or_from_slice_get xs (2 * i + 1) c.at-in-loop-i.result 0 c.at-in-loop-i.ensures) in
    let up : get_or xs (2 * i) 0 < get_or xs (2 * i + 1) 0 = c.requires.ascending (2 * i) there in
    omega (arith, start, end, up)

pub add-requires-clause-first : goal.add-requires-clause-first
add-requires-clause-first g c =
    let xs = g.B.Boundaries.list c.args.ends in
    let i = c.loop-i.i in
    let f = c.loop-i.invariant in
    let there : 2 * i + 1 < length xs = omega (arith, c.loop-i-test.true, c.count-ranges.ensures) in
    let start : c.at.result ≡ get_or xs (2 * i) 0 = sym (get_or_from_slice_get xs (2 * i) c.at.result 0 c.at.ensures) in
    rw start (f.enough.own (2 * i) (omega (arith, there)))

pub add-requires-clause-last : goal.add-requires-clause-last
add-requires-clause-last g c =
    let xs = g.B.Boundaries.list c.args.ends in
    let i = c.loop-i.i in
    let f = c.loop-i.invariant in
    let there : 2 * i + 1 < length xs = omega (arith, c.loop-i-test.true, c.count-ranges.ensures) in
    let end : c.at-in-loop-i.result ≡ get_or xs (2 * i + 1) 0 =
    sym (get_or_from_slice_get xs (2 * i + 1) c.at-in-loop-i.result 0 c.at-in-loop-i.ensures) in
    rw end (f.enough.own (2 * i + 1) there)

pub add-requires-clause-within : goal.add-requires-clause-within
add-requires-clause-within g c =
    let xs = g.B.Boundaries.list c.args.ends in
    let i = c.loop-i.i in
    let f = c.loop-i.filling in
    let there : 2 * i + 1 < length xs = omega (arith, c.loop-i-test.true, c.count-ranges.ensures) in
    let end : c.at-in-loop-i.result ≡ get_or xs (2 * i + 1) 0 =
    sym (get_or_from_slice_get xs (2 * i + 1) c.at-in-loop-i.result 0 c.at-in-loop-i.ensures) in
    let last = range_within xs (ranges_of (drop (2 * i) xs)) (ranges_of (drop (2 * (i + 1)) xs)) _ (next_range xs i there)
    f.bits f.block f.at c.loop-i.invariant in
    omega (arith, end, last)

pub loop-i-preserved : goal.loop-i-preserved
loop-i-preserved g c =
    let xs = g.B.Boundaries.list c.args.ends in
    let i = c.loop-i.i in
    let f = c.loop-i.filling in
    let new = c.add.new.self in
    let a = c.in_ok-add.ensures in
    let there : 2 * i + 1 < length xs = omega (arith, c.loop-i-test.true, c.count-ranges.ensures) in
    let start : c.at.result ≡ get_or xs (2 * i) 0 = sym (get_or_from_slice_get xs (2 * i) c.at.result 0 c.at.ensures) in
    let end : c.at-in-loop-i.result ≡ get_or xs (2 * i + 1) 0 =
    sym (get_or_from_slice_get xs (2 * i + 1) c.at-in-loop-i.result 0 c.at-in-loop-i.ensures) in
    let up : get_or xs (2 * i) 0 < get_or xs (2 * i + 1) 0 = c.requires.ascending (2 * i) there in
    freezes_more xs (ranges_of (drop (2 * i) xs)) (ranges_of (drop (2 * (i + 1)) xs)) _ (next_range xs i there)
    f.bits f.block f.at c.loop-i.invariant new.bits new.block new.at
    c.at.result c.at-in-loop-i.result start (omega (arith, end, up)) a.filling a.offsets a.below a.bits

pub returns : goal.returns
returns g c =
    let xs = g.B.Boundaries.list c.args.ends in
    let i = c.loop-i.i in
    let f = c.loop-i.filling in
    let e = c.in_ok-words.ensures in
    frozen_all xs (ranges_of (drop (2 * i) xs)) f.bits f.block f.at c.in_ok-words.words.items c.loop-i.invariant
    (no_range_left xs i (omega (arith, c.loop-i-test.false, c.count-ranges.ensures, c.requires.even))) e.tables e.offsets e.bits c.requires
