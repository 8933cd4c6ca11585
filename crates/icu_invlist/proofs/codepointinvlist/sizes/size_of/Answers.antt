use Rattle.std.proofs.Common.{◌≡◌, ◌∙◌, ℕ, ◌+◌, ◌*◌, suc, [], ap, arith, sym, drop}
use Rattle.std.proofs.lemmas.List.{drop_all}
use Rattle.icu_zerovec.specs.CodePoints.{code_point_limit}
use Rattle.icu_invlist.specs.Inside.PackedSets.{sum_of_sizes}
use Rattle.icu_invlist.proofs.MemberLemmas.{total-more, total-le, size-valid}
use Rattle.icu_invlist.proofs.ValidLists.{run_from_valid}
use Rattle.icu_invlist.proofs.codepointinvlist.sizes.size_of.Goals as goal

pub overflow_add-size-in-loop-i : goal.overflow_add-size-in-loop-i
overflow_add-size-in-loop-i c =
    let t = total-more c.args.ends.now (2 * c.loop-i.i) (omega arith) (omega (arith, c.loop-i-test.true)) in
    let b = total-le 0 (suc code_point_limit) c.args.ends.now (omega arith) (run_from_valid _ c.requires) in
    omega (arith, c.loop-i.invariant.so_far)

pub loop-i-preserved : goal.loop-i-preserved
loop-i-preserved c =
    let xs = c.args.ends.now in
    let i : ℕ = 2 * c.loop-i.i in
    let t = total-more xs i (omega arith) (omega (arith, c.loop-i-test.true)) in
    let n : 2 * (c.loop-i.i + 1) ≡ i + 2 = omega arith in
    let k = ap (λ (n : ℕ). sum_of_sizes (drop n xs)) n in
    record { so_far = omega (arith, c.loop-i.invariant.so_far, t, k) }

pub returns : goal.returns
returns c =
    let e : drop (2 * c.loop-i.i) c.args.ends.now ≡ [] =
    drop_all (2 * c.loop-i.i) c.args.ends.now (omega (arith, c.loop-i-test.false, c.requires.even)) in
    let s : c.loop-i.size + sum_of_sizes [] ≡ sum_of_sizes c.args.ends.now = rw e at c.loop-i.invariant.so_far in
    (let z : c.loop-i.size ≡ sum_of_sizes c.args.ends.now = omega arith in z) ∙ sym (size-valid c.args.ends.now c.requires)
