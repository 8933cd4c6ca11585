-- Six words are the bytes of the next eight boundaries.
use Rattle.std.proofs.Common.{◌≡◌, ◌++◌, ◌+◌, take, ap, sym, ◌∙◌, append_assoc, take-append-drop, length, arith}
use Rattle.std.specs.List.{flat_map}
use Rattle.std.proofs.lemmas.Grind.{flat_map-append}
use Rattle.std.proofs.lemmas.List.{length-take-le}
use Rattle.icu_zerovec.specs.PackedBytes.{low_bytes}
use Rattle.icu_invlist.proofs.PackedWords.{packed-length, small-drop}
use Rattle.icu_invlist.proofs.packing.pack_into.Goals as goal

pub loop-eight-preserved : goal.loop-eight-preserved
loop-eight-preserved c =
    let i = c.loop-eight.invariant in
    let k = c.in-Some.ensures.cases in
    let rest = c.loop-eight.rest.now in
    let eight = c.in-Some.eight.now in
    let next = c.in-Some.next.now in
    let front = take c.loop-eight.at c.loop-eight.out in
    let whole : eight ++ next ≡ rest =
    ap (λ xs. xs ++ next) k.0 ∙ (ap (λ xs. take 8 rest ++ xs) k.1 ∙ take-append-drop 8 rest) in
    let joined : flat_map (low_bytes 3) eight ++ flat_map (low_bytes 3) next ≡ flat_map (low_bytes 3) rest =
    sym (flat_map-append (low_bytes 3) eight next) ∙ ap (flat_map (low_bytes 3)) whole in
    let flat = c.as_flattened-in-Some in
    let bytes : flat.result.now ≡ flat_map (low_bytes 3) eight =
    flat.ensures.value ∙ ap (flat_map (λ b. b)) c.as_flattened.ensures.value ∙ c.words_of_eight.ensures in
    let size : length flat.result.now ≡ 24 =
    ap length bytes ∙ packed-length eight ∙ (let l = ap length k.0 ∙ length-take-le 8 rest (omega (arith, k.2)) in omega arith) in
    let written : take (c.loop-eight.at + 24) c.write.new.out ≡ front ++ flat_map (low_bytes 3) eight =
    ap (λ n. take (c.loop-eight.at + n) c.write.new.out) (sym size) ∙ c.write.ensures.written ∙ ap (λ ys. front ++ ys) bytes in
    record {
      small = small-drop 8 rest next k.1 i.small;
      len = c.write.ensures.len ∙ i.len;
      at = (let a = i.at in omega (arith, k.2));
      items = rw written
          (append_assoc front (flat_map (low_bytes 3) eight) (flat_map (low_bytes 3) next) ∙ ap (λ ys. front ++ ys) joined ∙ i.items);
    }
