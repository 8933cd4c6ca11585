-- The boundaries that are left begin with the eight of the bytes that are read.
use Rattle.std.proofs.Common.{◌++◌, ◌+◌, take, arith, ◌≡◌, ap, sym, ◌∙◌, append_assoc, length}
use Rattle.std.proofs.lemmas.List.{length-take-le}
use Rattle.icu_invlist.proofs.PackedWords.{all_eight, eight_ends}
use Rattle.icu_invlist.specs.Inside.StillGiven.{ends_in}
use Rattle.icu_invlist.proofs.packing.unpack_into.Goals as goal

pub loop-eight-preserved : goal.loop-eight-preserved
loop-eight-preserved c =
    let l = c.loop-eight in
    let k = c.in-Some.ensures.cases in
    let e = eight_ends l.rest.now c.in-Some.eight.now c.in-Some.next.now (omega (arith, k.2)) k.0 k.1 in
    let eight : c.as_flattened.result.now ≡ ends_in c.in-Some.eight.now = c.as_flattened.ensures.value ∙ c.eight_of.ensures in
    let size : length c.as_flattened.result.now ≡ 8 = ap length eight
    ∙ ap length (all_eight c.in-Some.eight.now (ap length k.0 ∙ length-take-le 24 l.rest.now (omega (arith, k.2)))) in
    let written : take (l.at + 8) c.write.new.out ≡ take l.at l.out ++ ends_in c.in-Some.eight.now =
    ap (λ n. take (l.at + n) c.write.new.out) (sym size) ∙ c.write.ensures.written ∙ ap (λ ys. take l.at l.out ++ ys) eight in
    record {
      len = c.write.ensures.len ∙ l.invariant.len;
      at = (let i = l.invariant.at in omega (arith, k.2));
      items = rw written
          (append_assoc (take l.at l.out) _ (ends_in c.in-Some.next.now) ∙ ap (λ ys. take l.at l.out ++ ys) (sym e) ∙ l.invariant.items);
    }
