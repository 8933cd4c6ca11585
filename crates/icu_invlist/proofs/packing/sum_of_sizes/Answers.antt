-- The boundaries that are left begin with those of the bytes that are read.
use Rattle.std.proofs.Common.{arith, ap, suc}
use Rattle.std.proofs.lemmas.List.{get_or-drop}
use Rattle.icu_zerovec.specs.CodePoints.{code_point_limit}
use Rattle.icu_invlist.specs.Inside.PackedSets.{sum_of_sizes}
use Rattle.icu_invlist.specs.Inside.StillGiven.{ends_in}
use Rattle.icu_invlist.proofs.MemberLemmas.{total-le}
use Rattle.icu_invlist.proofs.PackedWords.{first_rises, four_ends, next_packed, no_more_ends, second_rises, two_ends, two_rise}
use Rattle.icu_invlist.proofs.ValidLists.{run_from_valid}
use Rattle.icu_invlist.proofs.packing.sum_of_sizes.Goals as goal

pub overflow_sub-sum : goal.overflow_sub-sum
overflow_sub-sum c =
    let k = c.in-Some.ensures.cases in
    rw c.four_of.ensures
    (first_rises c.loop-four.rest.now c.in-Some.four.now c.in-Some.next.now c.loop-four.invariant.packed (omega (arith, k.2)) k.0 k.1)

pub overflow_sub-sum-in-Some : goal.overflow_sub-sum-in-Some
overflow_sub-sum-in-Some c =
    let k = c.in-Some.ensures.cases in
    rw c.four_of.ensures
    (second_rises c.loop-four.rest.now c.in-Some.four.now c.in-Some.next.now c.loop-four.invariant.packed (omega (arith, k.2)) k.0 k.1)

pub overflow_add-sum-in-Some : goal.overflow_add-sum-in-Some
overflow_add-sum-in-Some c =
    let k = c.in-Some.ensures.cases in
    let e = four_ends c.loop-four.rest.now c.in-Some.four.now c.in-Some.next.now (omega (arith, k.2)) k.0 k.1 in
    let s = ap sum_of_sizes e in
    let t = c.loop-four.invariant.sum in
    let f = total-le 0 (suc code_point_limit) (ends_in c.args.bytes.now) (omega arith) (run_from_valid _ c.requires.valid) in
    rw c.four_of.ensures (omega arith)

pub loop-four-preserved : goal.loop-four-preserved
loop-four-preserved c =
    let k = c.in-Some.ensures.cases in
    let e = four_ends c.loop-four.rest.now c.in-Some.four.now c.in-Some.next.now (omega (arith, k.2)) k.0 k.1 in
    let s = ap sum_of_sizes e in
    let t = c.loop-four.invariant.sum in
    record {
      packed = next_packed c.loop-four.rest.now c.in-Some.four.now c.in-Some.next.now c.loop-four.invariant.packed (omega (arith, k.2)) k.0 k.1;
      sum = rw c.four_of.ensures (omega arith);
    }

pub overflow_sub-sum-in-Some-first_chunk : goal.overflow_sub-sum-in-Some-first_chunk
overflow_sub-sum-in-Some-first_chunk c =
    let i = c.loop-four.invariant in
    let d = c.in_default.ensures.cases in
    let k = c.in-Some-first_chunk.ensures.cases in
    let r = two_rise c.loop-four.rest.now c.in-Some-first_chunk.range.now i.packed (let w = i.packed.whole in let n = k.enough in omega arith)
    k.same in
    let x = c.from_le_bytes-start.ensures in let y = c.from_le_bytes-end.ensures in
    let z = get_or-drop 3 c.in-Some-first_chunk.range.now in let z0 = z 0 0 in let z1 = z 1 0 in let z2 = z 2 0 in omega arith

pub overflow_add-sum-in-Some-first_chunk : goal.overflow_add-sum-in-Some-first_chunk
overflow_add-sum-in-Some-first_chunk c =
    let i = c.loop-four.invariant in
    let d = c.in_default.ensures.cases in
    let k = c.in-Some-first_chunk.ensures.cases in
    let e = two_ends c.loop-four.rest.now c.in-Some-first_chunk.range.now (let w = i.packed.whole in let n = k.enough in omega arith) k.same in
    let s = ap sum_of_sizes e in
    let t = i.sum in
    let f = total-le 0 (suc code_point_limit) (ends_in c.args.bytes.now) (omega arith) (run_from_valid _ c.requires.valid) in
    let x = c.from_le_bytes-start.ensures in let y = c.from_le_bytes-end.ensures in
    let z = get_or-drop 3 c.in-Some-first_chunk.range.now in let z0 = z 0 0 in let z1 = z 1 0 in let z2 = z 2 0 in omega arith

pub returns-in-Some-first_chunk : goal.returns-in-Some-first_chunk
returns-in-Some-first_chunk c =
    let i = c.loop-four.invariant in
    let d = c.in_default.ensures.cases in
    let k = c.in-Some-first_chunk.ensures.cases in
    let e = two_ends c.loop-four.rest.now c.in-Some-first_chunk.range.now (let w = i.packed.whole in let n = k.enough in omega arith) k.same in
    let s = ap sum_of_sizes e in
    let t = i.sum in
    let x = c.from_le_bytes-start.ensures in let y = c.from_le_bytes-end.ensures in
    let z = get_or-drop 3 c.in-Some-first_chunk.range.now in let z0 = z 0 0 in let z1 = z 1 0 in let z2 = z 2 0 in omega arith

pub returns-in_default-first_chunk : goal.returns-in_default-first_chunk
returns-in_default-first_chunk c =
    let i = c.loop-four.invariant in
    let d = c.in_default-first_chunk.ensures.cases in
    let s = ap sum_of_sizes (no_more_ends c.loop-four.rest.now (let w = i.packed.whole in omega arith)) in
    let t = i.sum in omega arith
