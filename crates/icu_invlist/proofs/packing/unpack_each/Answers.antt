-- The boundaries that are left begin with that of the bytes that are read.
use Rattle.std.proofs.Common.{◌++◌, take, arith, ◌≡◌, ap, sym, ◌∙◌, append_assoc, append-nil}
use Rattle.std.proofs.lemmas.List.{take_all}
use Rattle.icu_zerovec.specs.PackedBytes.{number_of}
use Rattle.icu_invlist.proofs.PackedWords.{one_end, no_more_ends}
use Rattle.icu_invlist.specs.Inside.StillGiven.{ends_in}
use Rattle.icu_invlist.proofs.packing.unpack_each.Goals as goal

pub loop-three-preserved : goal.loop-three-preserved
loop-three-preserved c =
    let l = c.loop-three in
    let k = c.in-Some.ensures.cases in
    let e = one_end l.rest.now c.in-Some.three.now c.in-Some.next.now (omega (arith, k.2)) k.0 k.1 in
    let n : c.from_le_bytes-end.result ≡ number_of 3 c.in-Some.three.now = c.from_le_bytes-end.ensures ∙ (omega arith) in
    record {
      len = c.write.ensures.len ∙ l.invariant.len;
      at = (let i = l.invariant.at in omega (arith, k.2));
      items = rw (c.write.ensures.written, n)
          (append_assoc (take l.at l.out) _ (ends_in c.in-Some.next.now) ∙ ap (λ ys. take l.at l.out ++ ys) (sym e)
          ∙ l.invariant.items);
    }

pub returns : goal.returns
returns c =
    let l = c.loop-three in
    let d = c.in_default.ensures.cases in
    let all : take l.at l.out ≡ l.out = take_all l.at l.out (let a = l.invariant.at in let n = l.invariant.len in omega arith) in
    sym all ∙ (sym (ap (λ ys. take l.at l.out ++ ys) (no_more_ends l.rest.now d) ∙ append-nil (take l.at l.out)) ∙ l.invariant.items)
