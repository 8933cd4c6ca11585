use Rattle.std.proofs.Common.{◌∙◌, ◌≡◌, ◌+◌, ◌-◌, ◌*◌, ◌%◌, ◌≤◌, suc, get_or, arith, sym, refl, ap, subst, Some, true, false, ℕ}
use Rattle.std.proofs.lemmas.Bool.{both_ways, cond-true, cond-false, eq-eqb, ne_eqb}
use Rattle.std.proofs.lemmas.List.{length-take-le}
use Rattle.icu_zerovec.specs.CodePoints.{code_point_limit}
use Rattle.icu_invlist.specs.InversionList.{holds}
use Rattle.icu_invlist.proofs.MemberCounts.{place-within}
use Rattle.icu_invlist.proofs.MemberLemmas.{walked_in, total-le}
use Rattle.icu_invlist.proofs.PackedWords.{bytes-length, first_packed, first_walked}
use Rattle.icu_invlist.proofs.Parity.{holds-ends_below, not_even_is_odd}
use Rattle.icu_invlist.proofs.PlaceLemmas.{not_past_limit, within-place, least_at, valid-length}
use Rattle.icu_invlist.proofs.RunLemmas.{ends_below-front}
use Rattle.icu_invlist.proofs.ValidLists.{run_from_valid}
use Rattle.icu_invlist.proofs.codepointinvlist.cpinvlist.CodePointInversionList.position32.Goals as goal

pub returns-then-is_multiple_of-clause-place : goal.returns-then-is_multiple_of-clause-place
returns-then-is_multiple_of-clause-place c =
    let p = c.place_of-place.ensures.place in let z = c.is_multiple_of.ensures.0 c.if-is_multiple_of.true in
    let h : holds c.args.self.now c.args.c ≡ false = holds-ends_below c.args.self.now c.args.c ∙ ne_eqb _ _ (λ k. omega arith) in
    sym (cond-false _ _ _ h)

pub overflow_mul-start : goal.overflow_mul-start
overflow_mul-start c = let l = valid-length c.args.self.now c.place_of-place.ensures.valid in let w = c.place_of-place.ensures.within in
    omega arith

pub slice_bounds-sum_of_sizes-end : goal.slice_bounds-sum_of_sizes-end
slice_bounds-sum_of_sizes-end c =
    let n = bytes-length c.as_bytes.result.now c.args.self.now c.as_bytes.ensures.packed (sym c.self.view_is ∙ c.as_bytes.ensures.values) in
    let w = c.place_of-place.ensures.within in
    sym (length-take-le (3 * (c.place_of-place.result - 1)) c.as_bytes.result.now (omega arith))

pub sum_of_sizes-before-requires : goal.sum_of_sizes-before-requires
sum_of_sizes-before-requires c =
    let z = not_even_is_odd c.is_multiple_of.result c.place_of-place.result c.is_multiple_of.ensures c.if-is_multiple_of.false in
    let w = c.place_of-place.ensures.within in
    first_packed c.as_bytes.result.now c.args.self.now (c.place_of-place.result - 1) (3 * (c.place_of-place.result - 1))
    c.as_bytes.ensures.packed (sym c.self.view_is ∙ c.as_bytes.ensures.values) c.place_of-place.ensures.valid (omega arith) (omega arith)
    (omega arith)

pub overflow_sub-result : goal.overflow_sub-result
overflow_sub-result c =
    let p = c.place_of-place.ensures.place in
    let z = not_even_is_odd c.is_multiple_of.result c.place_of-place.result c.is_multiple_of.ensures c.if-is_multiple_of.false in
    let f = ends_below-front 0 (suc code_point_limit) (suc c.args.c) c.args.self.now
    (run_from_valid c.args.self.now c.place_of-place.ensures.valid) (c.place_of-place.result - 1) (omega arith) in
    let e = c.end_at.ensures.end in omega arith

pub overflow_add-result : goal.overflow_add-result
overflow_add-result c =
    let p = c.place_of-place.ensures.place in
    let z = not_even_is_odd c.is_multiple_of.result c.place_of-place.result c.is_multiple_of.ensures c.if-is_multiple_of.false in
    let w = c.place_of-place.ensures.within in
    let i : ℕ = c.place_of-place.result - 1 in
    let walked = first_walked c.as_bytes.result.now c.args.self.now i (3 * i) c.as_bytes.ensures.packed
    (sym c.self.view_is ∙ c.as_bytes.ensures.values) c.place_of-place.ensures.valid (omega arith) (omega arith) (omega arith)
    c.args.c c.sum_of_sizes-before.result (omega arith) c.sum_of_sizes-before.ensures in
    let t = total-le 0 (suc code_point_limit) c.args.self.now (omega arith)
    (run_from_valid c.args.self.now c.place_of-place.ensures.valid) in
    let s = walked.small in let r = c.ranges.c.fits in omega arith

pub returns-clause-place : goal.returns-clause-place
returns-clause-place c =
    let v = c.place_of-place.ensures.valid in
    let p = c.place_of-place.ensures.place in
    let z = not_even_is_odd c.is_multiple_of.result c.place_of-place.result c.is_multiple_of.ensures c.if-is_multiple_of.false in
    let w = c.place_of-place.ensures.within in
    let i : ℕ = c.place_of-place.result - 1 in
    let odd : c.place_of-place.result % 2 ≡ 1 = omega arith in
    let last : c.place_of-place.result ≡ i + 1 = omega arith in
    let walked = first_walked c.as_bytes.result.now c.args.self.now i (3 * i) c.as_bytes.ensures.packed
    (sym c.self.view_is ∙ c.as_bytes.ensures.values) v (omega arith) (omega arith) (omega arith)
    c.args.c c.sum_of_sizes-before.result (omega arith) c.sum_of_sizes-before.ensures in
    let h = within-place c.args.self.now c.place_of-place.result (suc c.args.c) v p odd in
    let l = least_at c.args.self.now c.place_of-place.result (suc c.args.c) v p h in
    let l' : suc c.args.c ≤ get_or c.args.self.now (i + 1) 0 = subst (λ (n : ℕ). suc c.args.c ≤ get_or c.args.self.now n 0) last l in
    let f = ends_below-front 0 (suc code_point_limit) (suc c.args.c) c.args.self.now (run_from_valid c.args.self.now v) i (omega arith) in
    let n = walked_in c.args.self.now i c.args.c c.sum_of_sizes-before.result c.end_at.result (get_or c.args.self.now (i + 1) 0) v
    walked (omega arith) c.end_at.ensures.end refl (let e = c.end_at.ensures.end in omega arith) (omega arith) in
    ap Some (sym n.1) ∙ sym (cond-true _ _ _ n.0)

pub returns-clause-far : goal.returns-clause-far
returns-clause-far c = λ far.
    let p = c.place_of-place.ensures.place in let z = not_even_is_odd c.is_multiple_of.result c.place_of-place.result c.is_multiple_of.ensures c.if-is_multiple_of.false in
    let h : holds c.args.self.now c.args.c ≡ true = holds-ends_below c.args.self.now c.args.c ∙ eq-eqb _ _ (omega arith) in
    absurd (both_ways _ (not_past_limit c.args.self.now c.args.c c.place_of-place.ensures.valid far) h)

pub returns-clause-below : goal.returns-clause-below
returns-clause-below c =
    let p = c.place_of-place.ensures.place in let z = not_even_is_odd c.is_multiple_of.result c.place_of-place.result c.is_multiple_of.ensures c.if-is_multiple_of.false in
    let h : holds c.args.self.now c.args.c ≡ true = holds-ends_below c.args.self.now c.args.c ∙ eq-eqb _ _ (omega arith) in
    place-within c.args.self.now c.args.c _ c.place_of-place.ensures.valid h (returns-clause-place c)
