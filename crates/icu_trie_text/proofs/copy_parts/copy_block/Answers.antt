use Rattle.std.proofs.Common.{◌≡◌, ◌∙◌, true, ℕ, ◌+◌, ◌-◌, drop, take, length, arith}
use Rattle.std.proofs.lemmas.List.{length-set, take_rest}
use Rattle.icu_trie_text.proofs.CopiedItems.{text_next}
use Rattle.icu_trie_text.proofs.CopiedLemmas.{copied_more, left_from, rest_after}
use Rattle.icu_utf.proofs.CallerLemmas.{part_near, part_size}
use Rattle.icu_trie_text.proofs.copy_parts.copy_block.Goals as goal

pub loop-rest-preserved : goal.loop-rest-preserved
loop-rest-preserved g c =
    let invariant = c.loop-rest.invariant in
    let bytes = c.args.bytes.now in
    let rest = c.loop-rest.rest.now in
    let n : ℕ = c.first_value-value.result.1 in
    let i : ℕ = length bytes - length rest in
    let v = c.first_value-value.ensures in
    let size = part_size rest v.0 n v.1 in
    let four = part_near rest v.0 n v.1 in
    let room = invariant.room in
    let long = invariant.size in
    let within = invariant.within in
    let near = invariant.near in
    let left = left_from bytes (take (length rest - n) (drop n rest)) (i + n) (rest_after bytes rest i n invariant.from)
    (omega (arith, size.1, within)) in
    let before = left.0 in
    record {
      near = omega (arith, four, size.1, before, left.1, within, c.loop-rest-test.true);
      within = left.1;
      room = omega (arith, size, room, before, left.1, within);
      size = length-set c.loop-rest.values c.loop-rest.j _ ∙ long;
      from = left.2;
      text = λ (t : g.R.Reading.trusts ≡ true). rw (take_rest rest n) (text_next rest v.0 n (invariant.text t) v.1).2.0;
      copied = λ old known. rw before (copied_more (g.V.PartValues.gives c.args.trie.now) bytes old c.loop-rest.values i c.loop-rest.j n _
          (invariant.copied old known) (rw invariant.from at v) (omega (arith, room, long, c.loop-rest-test.true, c.requires.room)));
    }
