use Rattle.std.proofs.Common.{◌≡◌, ◌≤◌, ◌∙◌, ℕ, List, length, take, ap, sym, subst, arith}
use Rattle.std.specs.Vec.{with_items}
use Rattle.std.proofs.lemmas.List.{with_items_is}
use Rattle.icu_zerovec.specs.Slice.{slice_values}
use Rattle.icu_invlist.specs.InversionList.{IsValid, holds, Acts}
use Rattle.icu_invlist.specs.Merge.{HasMerged}
use Rattle.icu_invlist.proofs.PlaceLemmas.{valid-length}
use Rattle.icu_invlist.proofs.MergeLemmas.{written_fits, length-written}
use Rattle.icu_invlist.proofs.merge.merged.Goals as goal

pub overflow_add-a : goal.overflow_add-a
overflow_add-a g c =
    let x = valid-length c.args.a.now c.requires in let y = valid-length c.args.b.now c.count.ensures.valid in
    let n = c.count.ensures.count in omega arith

pub returns : goal.returns
returns g c =
    let e : slice_values c.as_slice.result ≡ c.args.b.now = c.as_slice.ensures ∙ c.packed.ensures.ends in
    let out = c.merge-count.new.out in
    let base = c.deref_mut.result.now in
    let m : HasMerged g.O.SetOperation.gives c.args.a.now c.args.b.now base out c.merge-count.result =
    subst (λ (ys : List ℕ). HasMerged g.O.SetOperation.gives c.args.a.now ys base out c.merge-count.result) e c.merge-count.ensures.merged in
    let same : length out ≡ length base = ap length m.buffer ∙ length-written m.ends base in
    let room : length m.ends ≤ length base = (let f = c.merge-count.ensures.few in let l = ap length e in let n = m.count in
    let x = c.count.ensures.count in let z = c.in_ok-ends.ensures.len in let t = c.deref_mut.ensures.len in
    let k = ap length c.deref_mut.ensures.value in omega arith) in
    let kept : (with_items c.in_ok-ends.ends out).items ≡ out = with_items_is c.in_ok-ends.ends out
    (let t = c.deref_mut.ensures.len in let k = ap length c.deref_mut.ensures.value in omega arith) in
    let items : c.truncate.new.self.items ≡ m.ends = c.truncate.ensures.items ∙ (ap (take c.merge-count.result) kept
    ∙ (ap (take c.merge-count.result) m.buffer ∙ rw m.count (written_fits m.ends base room))) in
    record {
      valid = subst IsValid (sym items) m.valid;
      set = subst (λ (ys : List ℕ). Acts g.O.SetOperation.gives c.args.a.now (holds c.args.b.now) ys) (sym items) m.set;
    }
