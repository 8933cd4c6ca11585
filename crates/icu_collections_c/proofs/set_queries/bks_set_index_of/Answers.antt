-- The ranges before the one that contains the code point have all members below it.
use Rattle.std.proofs.Common.{◌≡◌, ◌+◌, ◌-◌, ◌*◌, ◌/◌, ◌%◌, ◌<◌, ◌≤◌, refl, arith, length, get_or}
use Rattle.icu_collections_c.specs.Inside.SetPlaces.{Gap}
use Rattle.icu_collections_c.proofs.SetPlaceLemmas.{before_place, index_found, index_none, members_up_to}
use Rattle.icu_frozen_sets.proofs.CallerLemmas.{members_below-le}
use Rattle.icu_collections_c.proofs.set_queries.bks_set_index_of.Goals as goal

pub returns-then-place-eq0 : goal.returns-then-place-eq0
returns-then-place-eq0 c = λ v.
    let xs = c.args.ends.now in
    let place = c.place_of-place.result in
    let p = c.place_of-place.ensures.place v.ascending in
    index_none xs place c.args.c c.args.index.now c.args.index.now v c.if-place-eq0.true p.within (before_place xs c.args.c place p)
    (λ h. p.next (omega arith)) refl

pub returns : goal.returns
returns c = λ v.
    let xs = c.args.ends.now in
    let place = c.place_of-place.result in
    let p = c.place_of-place.ensures.place v.ascending in
    let i = place - 1 in
    let even = v.even in
    let within = p.within in
    let odd : place % 2 ≡ 1 = omega (arith, c.if-place-eq0.false) in
    let inside : i + 1 < length xs = omega (arith, odd, even, within) in
    let half : 2 * (place / 2) ≡ i = omega (arith, odd) in
    let same : i + 1 ≡ place = omega (arith, odd) in
    let before = c.members_before-before.result in
    let gap : Gap xs i before = rw half at (c.members_before-before.ensures v (omega (arith, within))) in
    let from : get_or xs i 0 ≤ c.args.c = before_place xs c.args.c place p (omega (arith, odd)) in
    let to : c.args.c < get_or xs (i + 1) 0 = rw same (p.next (omega (arith, same, inside))) in
    let is_even : i % 2 ≡ 0 = omega (arith, odd) in
    let all = members_up_to xs i before v is_even inside gap c.args.c from (omega (arith, to)) in
    let few = members_below-le xs c.args.c in
    index_found xs i before v is_even inside gap c.args.c c.args.index.now _ from to (omega (arith, all, few, from, c.ranges.c.fits))
